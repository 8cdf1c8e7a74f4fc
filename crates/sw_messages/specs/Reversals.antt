-- The reversal of a request.
--
-- - *Original data elements, reversal of a request*;
--   *authorization advice, reversal advice* (`Advices.antt`); *response to a request, its type*
--   (`Responses.antt`).
use Rattle.std.specs.Prelude.{ℕ, ◌-◌, List, [], ◌∷◌, ◌++◌, length, replicate, codes}
use Rattle.std.specs.Prelude.{Option, Some, None}
use Rattle.iso_msg.specs.Messages.{PlainMessage, value_at}
use Rattle.sw_messages.specs.Placing.{with_field, copied}

-- a value with zeros in front of it, up to this length; all zeros if there is no value
abbrev pub zeros_before : ℕ → Option (List ℕ) → List ℕ
zeros_before width None = replicate width 48
zeros_before width (Some value) = replicate (width - length value) 48 ++ value

-- field 90, the original data elements: message type, STAN (11), transmission date and time (7),
-- acquiring (32) and forwarding (33) institution of the request
abbrev pub original_data : PlainMessage → List ℕ
original_data m =
    (((m.mti ++ zeros_before 6 (value_at 11 m.fields)) ++ zeros_before 10 (value_at 7 m.fields))
    ++ zeros_before 11 (value_at 32 m.fields)) ++ zeros_before 11 (value_at 33 m.fields)

-- the fields that a reversal copies from its request
abbrev pub reversal_numbers : List ℕ
reversal_numbers = 2 ∷ 3 ∷ 4 ∷ 7 ∷ 11 ∷ 12 ∷ 13 ∷ 32 ∷ 37 ∷ 41 ∷ 42 ∷ 49 ∷ []

-- the reversal advice of a request
abbrev pub reversal_of : PlainMessage → PlainMessage
reversal_of m = record {
  mti = codes "0420";
  fields = with_field 90 (Some (original_data m)) (copied reversal_numbers m.fields []);
}
