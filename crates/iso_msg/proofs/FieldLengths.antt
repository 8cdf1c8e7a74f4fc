-- The forms of some fields, and the length of a value of a field of fixed length.
use Rattle.std.proofs.Common.{◌≡◌, ℕ, Bool, true, false, ◌==◌, List, length, Some, None, refl, sym, ap, ◌∙◌, arith}
use Rattle.iso_msg.specs.declared.table.FieldForm.TheVariants.{Fixed}
use Rattle.iso_msg.specs.declared.table.Content.{Content}
use Rattle.iso_msg.specs.declared.table.Content.TheVariants.{Numeric, Printable}
use Rattle.iso_msg.specs.Table.{form_of, definition_of, rows}
use Rattle.iso_msg.specs.Values.{refusal, refusal_by}

exact_by : (content : Content) (exact n : ℕ) (v : List ℕ) → refusal_by (Some (Fixed content exact)) n v ≡ None → length v ≡ exact
exact_by content exact n v h = by (length v == exact) refl
  where
    by : (b : Bool) → length v == exact ≡ b → length v ≡ exact
    by true e = grind arith
    by false e = absurd (grind arith)

pub exact_length : (content : Content) (exact n : ℕ) (v : List ℕ) → form_of n ≡ Some (Fixed content exact) → refusal n v ≡ None → length v ≡ exact
exact_length content exact n v form h = exact_by content exact n v (sym (ap (λ f. refusal_by f n v) form) ∙ h)

pub form-4 : form_of 4 ≡ Some (Fixed Numeric 12)
unfolding form_of definition_of rows
form-4 = refl

pub form-7 : form_of 7 ≡ Some (Fixed Numeric 10)
unfolding form_of definition_of rows
form-7 = refl

pub form-11 : form_of 11 ≡ Some (Fixed Numeric 6)
unfolding form_of definition_of rows
form-11 = refl

pub form-39 : form_of 39 ≡ Some (Fixed Printable 2)
unfolding form_of definition_of rows
form-39 = refl

pub form-41 : form_of 41 ≡ Some (Fixed Printable 8)
unfolding form_of definition_of rows
form-41 = refl
