-- What comes from a host.
use Rattle.std.specs.Prelude.{◌≡◌, ℕ, Bool, true, false, List, Option, Some, None, codes}
use Rattle.std.specs.Str.{bytes_eq}
use Rattle.iso_msg.specs.Messages.{PlainMessage}
use Rattle.sw_messages.specs.Requests.{message_of}
use Rattle.sw_wire.specs.declared.came.Came.{Came}
use Rattle.sw_wire.specs.declared.came.Came.TheVariants.{Echo, Keyed, Unkeyed}
use Rattle.sw_wire.specs.Keyed.{key_in}

-- a network management response
abbrev pub is_echo_answer : PlainMessage → Bool
is_echo_answer m = bytes_eq m.mti (codes "0810")

-- there is a message, and it is one
abbrev pub echoes : Option PlainMessage → Bool
echoes None = false
echoes (Some m) = is_echo_answer m

-- an answer to an echo test, or another message that has a key, or neither
abbrev pub IsCame : List ℕ → Came → Type 0
IsCame bytes Echo = echoes (message_of (Some bytes)) ≡ true
IsCame bytes (Keyed m r) =
    (echoes (message_of (Some bytes)) ≡ false) × (message_of (Some bytes) ≡ Some m) × (r.bytes.items ≡ bytes)
IsCame bytes Unkeyed = (echoes (message_of (Some bytes)) ≡ false) × (key_in bytes ≡ None)
