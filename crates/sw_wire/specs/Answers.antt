-- Which request an answer of a host is for.
use Rattle.std.specs.Prelude.{ℕ, Bool, true, false, ◌&&◌, List, length, nat_le, Option, Some, None, is_some}
use Rattle.std.specs.Prelude.{if◌then◌else◌}
use Rattle.std.specs.Str.{bytes_eq}
use Rattle.iso_msg.specs.Messages.{PlainMessage, value_at}
use Rattle.sw_wire.specs.declared.expected.Expected.{Expected}
use Rattle.sw_wire.specs.declared.received.Received.{Received}
use Rattle.sw_wire.specs.Boxes.{first_of}
use Rattle.sw_wire.specs.Wanted.{has_key}

-- the value that an answer has is the request's; an answer need not have one
abbrev pub agrees : Option (List ℕ) → Option (List ℕ) → Bool
agrees asked None = true
agrees None (Some value) = false
agrees (Some asked) (Some value) = bytes_eq asked value

-- The card, the amount, and the date and time of transmission that an answer has are the request's.
abbrev pub suits : PlainMessage → PlainMessage → Bool
suits request answer =
    agrees (value_at 2 request.fields) (value_at 2 answer.fields) && (agrees (value_at 4 request.fields) (value_at 4 answer.fields)
    && agrees (value_at 7 request.fields) (value_at 7 answer.fields))

-- a request with this key
abbrev pub asks : List ℕ → Expected → Bool
asks k expected = bytes_eq expected.key.bytes k

-- a request with this key that the answer suits
abbrev pub is_answered : List ℕ → PlainMessage → Expected → Bool
is_answered k answer expected = asks k expected && suits expected.request answer

-- a request with the key waits, or its answer was not taken yet
abbrev pub is_under_way : List ℕ → List Expected → List Received → Bool
is_under_way k asked came = if is_some (first_of (asks k) asked) then true else is_some (first_of (has_key k) came)

-- as many requests wait as may, which is never more than 64
abbrev pub is_busy : ℕ → List Expected → Bool
is_busy most asked = if nat_le most (length asked) then true else nat_le 64 (length asked)

-- one with the key is under way, or as many wait as may
abbrev pub is_refused : ℕ → List ℕ → List Expected → List Received → Bool
is_refused most k asked came = if is_under_way k asked came then true else is_busy most asked
