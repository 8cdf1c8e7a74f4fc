-- Lengths of values of fields.
-- for: limits::asked, limits::original
use Rattle.std.proofs.Common.{◌≡◌, ℕ, ◌≤◌, Bool, true, false, List, length, nat_le, Some, None, refl, sym, ap, ◌∙◌, arith}
use Rattle.iso_msg.specs.declared.table.FieldForm.TheVariants.{Fixed, Variable}
use Rattle.iso_msg.specs.declared.table.Content.{Content}
use Rattle.iso_msg.specs.declared.table.Content.TheVariants.{Numeric}
use Rattle.iso_msg.specs.Table.{form_of, definition_of, rows}
use Rattle.iso_msg.specs.Values.{refusal, refusal_by}
use Rattle.iso_msg.proofs.FieldLengths.{exact_length, form-4, form-7, form-11, form-41}

most_by : (content : Content) (length_digits most n : ℕ) (v : List ℕ) → refusal_by (Some (Variable content length_digits most)) n v ≡ None → length v ≤ most
most_by content length_digits most n v h = by (nat_le (length v) most) refl
  where
    by : (b : Bool) → nat_le (length v) most ≡ b → length v ≤ most
    by true e = grind arith
    by false e = absurd (grind arith)

form-2 : form_of 2 ≡ Some (Variable Numeric 2 19)
unfolding form_of definition_of rows
form-2 = refl

form-90 : form_of 90 ≡ Some (Fixed Numeric 42)
unfolding form_of definition_of rows
form-90 = refl

pub length-2 : (v : List ℕ) → refusal 2 v ≡ None → length v ≤ 19
length-2 v h = most_by Numeric 2 19 2 v (sym (ap (λ f. refusal_by f 2 v) form-2) ∙ h)

pub length-4 : (v : List ℕ) → refusal 4 v ≡ None → length v ≡ 12
length-4 v h = exact_length _ _ 4 v form-4 h

pub length-7 : (v : List ℕ) → refusal 7 v ≡ None → length v ≡ 10
length-7 v h = exact_length _ _ 7 v form-7 h

pub length-11 : (v : List ℕ) → refusal 11 v ≡ None → length v ≡ 6
length-11 v h = exact_length _ _ 11 v form-11 h

pub length-41 : (v : List ℕ) → refusal 41 v ≡ None → length v ≡ 8
length-41 v h = exact_length _ _ 41 v form-41 h

pub length-90 : (v : List ℕ) → refusal 90 v ≡ None → length v ≡ 42
length-90 v h = exact_length _ _ 90 v form-90 h
