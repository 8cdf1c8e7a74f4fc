-- The request that a context carries, and what is noted beside it. A context of the switch has
-- these entries: `request` (a message's bytes), `rc` (the response code), `auth` (the approval
-- code), `sent` and `late` (the request went to an issuer, and its answer has not come),
-- `standin` (the switch approved by itself) and `response`.
--
-- - *Request in a context, noted, class, response code*: a
--   context without `request` carries an unreadable one; a full context stays as it is; six
--   authorization and reversal types and two network types have a class.
use Rattle.std.specs.Prelude.{ℕ, Bool, false, ◌||◌, List, Option, Some, None, is_none, option_and_then, is_some}
use Rattle.std.specs.Prelude.{Result, Ok, Err, if◌then◌else◌, codes}
use Rattle.std.specs.Str.{bytes_eq}
use Rattle.iso_msg.specs.Messages.{PlainMessage}
use Rattle.iso_codec.specs.Reads.{read}
use Rattle.iso_codec.specs.declared.error.DecodeError.{DecodeError}
use Rattle.sw_context.specs.Pairs.{Pairs, find, with_value, refusal}
use Rattle.sw_messages.specs.declared.class.Class.{Class}
use Rattle.sw_messages.specs.declared.class.Class.TheVariants.{Authorization, Reversal}
use Rattle.sw_messages.specs.declared.class.Class.TheVariants.{NetworkManagement}
use Rattle.sw_messages.specs.declared.response_code.ResponseCode.{ResponseCode}
use Rattle.sw_messages.specs.declared.response_code.ResponseCode.TheVariants as rc

-- the message of a reading
abbrev pub ok_of : Result PlainMessage DecodeError → Option PlainMessage
ok_of (Ok m) = Some m
ok_of (Err e) = None

abbrev pub message_of : Option (List ℕ) → Option PlainMessage
message_of None = None
message_of (Some bytes) = ok_of (read bytes)

-- the request that a context carries; a context without one counts as one with an unreadable one
abbrev pub request_in : Pairs → Option PlainMessage
request_in x = message_of (find (codes "request") x)

-- a context with a note; one that does not take it stays as it is
abbrev pub noted : Pairs → List ℕ → List ℕ → Pairs
noted x name value = if is_none (refusal x name value) then with_value x name value else x

abbrev pub is_authorization : List ℕ → Bool
is_authorization mti = bytes_eq mti (codes "0100") || bytes_eq mti (codes "0101")

abbrev pub is_reversal : List ℕ → Bool
is_reversal mti =
    bytes_eq mti (codes "0400") || (bytes_eq mti (codes "0401")
    || (bytes_eq mti (codes "0420") || bytes_eq mti (codes "0421")))

abbrev pub is_network_management : List ℕ → Bool
is_network_management mti = bytes_eq mti (codes "0800") || bytes_eq mti (codes "0801")

-- what a request is for, by its message type (ISO 8583:1987, message type identifiers)
abbrev pub class_of : List ℕ → Option Class
class_of mti =
    if is_authorization mti then Some Authorization
    else if is_reversal mti then Some Reversal
    else if is_network_management mti then Some NetworkManagement
    else None

-- what the request of a context is for
abbrev pub class_in : Pairs → Option Class
class_in x = option_and_then (λ m. class_of m.mti) (request_in x)

-- the two characters of field 39
abbrev pub digits_of : ResponseCode → List ℕ
digits_of rc.Approved = codes "00"
digits_of rc.InvalidTransaction = codes "12"
digits_of rc.InvalidAmount = codes "13"
digits_of rc.InvalidCard = codes "14"
digits_of rc.FormatError = codes "30"
digits_of rc.ExceedsLimit = codes "61"
digits_of rc.IssuerInoperative = codes "91"
digits_of rc.DuplicateTransmission = codes "94"
digits_of rc.SystemMalfunction = codes "96"

-- a context with a response code noted
abbrev pub coded : ResponseCode → Pairs → Pairs
coded code x = noted x (codes "rc") (digits_of code)

-- whether a response code is there and is 00
abbrev pub is_approved : Option (List ℕ) → Bool
is_approved None = false
is_approved (Some code) = bytes_eq code (codes "00")

-- the switch approved by itself
abbrev pub is_stand_in : Pairs → Bool
is_stand_in x = is_some (find (codes "standin") x)
