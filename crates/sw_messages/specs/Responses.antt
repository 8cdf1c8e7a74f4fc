-- The response to a request.
use Rattle.std.specs.Prelude.{ℕ, ◌+◌, ◌%◌, Bool, ◌==◌, List, [], ◌∷◌, Some, codes, slice_index}
use Rattle.iso_msg.specs.Messages.{PlainMessage}
use Rattle.sw_context.specs.Pairs.{Pairs, find}
use Rattle.sw_messages.specs.declared.response_code.ResponseCode.{ResponseCode}
use Rattle.sw_messages.specs.Placing.{with_field, copied}
use Rattle.sw_messages.specs.Requests.{digits_of}

-- the fields that a response copies from its request
abbrev pub copied_numbers : List ℕ
copied_numbers =
    2 ∷ 3 ∷ 4 ∷ 7 ∷ 11 ∷ 12 ∷ 13 ∷ 32 ∷ 37 ∷ 41 ∷ 42 ∷ 49 ∷ 70 ∷ 90 ∷ []

-- the type: the third digit plus 1, the fourth 0
abbrev pub response_type : List ℕ → List ℕ
response_type mti = slice_index mti 0 ∷ slice_index mti 1 ∷ (slice_index mti 2 + 1) ∷ 48 ∷ []

-- a message with an odd third digit is a response
abbrev pub is_response : List ℕ → Bool
is_response mti = slice_index mti 2 % 2 == 1

-- the response to a request: the response code, which is the one that the transaction left, or else
-- the default; the approval code; the request's own fields
abbrev pub response_to : PlainMessage → ResponseCode → Pairs → PlainMessage
response_to m default x = record {
  mti = response_type m.mti;
  fields =
      with_field 39 (find (codes "rc") x)
      (with_field 39 (Some (digits_of default))
      (with_field 38 (find (codes "auth") x)
      (copied copied_numbers m.fields [])));
}
