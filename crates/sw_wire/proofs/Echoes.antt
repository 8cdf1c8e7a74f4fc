-- The values of an echo test fit their fields.
-- for: echo::message_of
use Rattle.std.proofs.Common.{◌≡◌, ℕ, List, length, Some, None, true, codes, refl, ap, ◌∙◌}
use Rattle.std.specs.List.{list_all}
use Rattle.iso_msg.specs.declared.table.FieldForm.TheVariants.{Fixed}
use Rattle.iso_msg.specs.declared.table.Content.TheVariants.{Numeric}
use Rattle.iso_msg.specs.Table.{form_of, definition_of, rows}
use Rattle.iso_msg.specs.Values.{refusal, refusal_by}
use Rattle.sw_base.specs.Digits.{is_digit}
use Rattle.iso_msg.proofs.FieldLengths.{form-7, form-11}

form-70 : form_of 70 ≡ Some (Fixed Numeric 3)
unfolding form_of definition_of rows
form-70 = refl

pub stamp_fits : (v : List ℕ) → length v ≡ 10 → list_all is_digit v ≡ true → refusal 7 v ≡ None
stamp_fits v size digits = ap (λ f. refusal_by f 7 v) form-7 ∙ rw size (rw digits refl)

pub stan_fits : (v : List ℕ) → length v ≡ 6 → list_all is_digit v ≡ true → refusal 11 v ≡ None
stan_fits v size digits = ap (λ f. refusal_by f 11 v) form-11 ∙ rw size (rw digits refl)

pub code_fits : refusal 70 (codes "301") ≡ None
code_fits = ap (λ f. refusal_by f 70 (codes "301")) form-70
