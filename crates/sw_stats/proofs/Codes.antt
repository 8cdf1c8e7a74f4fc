-- A response code has two characters.
-- for: counts::code_in
use Rattle.std.proofs.Common.{◌≡◌, ℕ, List, length, None}
use Rattle.iso_msg.specs.Values.{refusal}
use Rattle.iso_msg.proofs.FieldLengths.{exact_length, form-39}

pub length-39 : (v : List ℕ) → refusal 39 v ≡ None → length v ≡ 2
length-39 v h = exact_length _ _ 39 v form-39 h
