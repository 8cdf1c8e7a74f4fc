-- How long the texts of values are.
-- for: write_field::takes_value, write_field::push_value, write_field::push_field, look::look_form
use Rattle.std.proofs.Common.{◌≡◌, ◌∙◌, ℕ, ◌+◌, ◌*◌, ◌≤◌, true, List, length, Option, Some, None, ap, subst, arith}
use Rattle.std.specs.List.{flat_map}
use Rattle.std.proofs.lemmas.Bool.{eqb-true}
use Rattle.iso_msg.proofs.Bools.{equal-eqb}
use Rattle.iso_msg.specs.declared.table.Content.{Content}
use Rattle.iso_msg.specs.declared.table.FieldForm.{FieldForm}
use Rattle.iso_msg.specs.declared.table.FieldForm.TheVariants.{Fixed, Variable, Binary}
use Rattle.iso_msg.specs.Table.{form_of}
use Rattle.iso_msg.specs.Values.{has_content, has_length, refusal, refusal_by}
use Rattle.iso_codec.specs.Spelling.{hex}
use Rattle.iso_codec.proofs.Encoding.{hex_length, picked}
use Rattle.iso_dialect.specs.Profiles.{has_text_length}
use Rattle.iso_dialect.specs.Writings.{text_for}
use Rattle.iso_dialect.proofs.FormLengths.{short_text}

pub hex_fits : (f : FieldForm) (v empty : List ℕ) → f ≡ Binary → length empty ≡ 0 → length (text_for f v) ≤ 999 → length empty + 2 * length v ≤ 1000
hex_fits f v empty e z h =
    let short : length (flat_map hex v) ≤ 999 = subst (λ (g : FieldForm). length (text_for g v) ≤ 999) e h in
    omega (arith, hex_length v)

-- the text of a value of the right length has the right length
pub text_length_of : (f : FieldForm) (v : List ℕ) → has_length f (length v) ≡ true → has_text_length f (length (text_for f v)) ≡ true
text_length_of (Fixed c e) v h = h
text_length_of (Variable c d most) v h = h
text_length_of Binary v h = equal-eqb (length (flat_map hex v)) 16 (omega (arith, hex_length v, eqb-true (length v) 8 h))

pub record Valid (f : FieldForm) (v : List ℕ) : Type 0 where
  pub len : has_length f (length v) ≡ true
  pub content : has_content f v ≡ true

pub valid_by : (f : FieldForm) (n : ℕ) (v : List ℕ) → refusal_by (Some f) n v ≡ None → Valid f v
valid_by f n v h = let p = picked (has_length f (length v)) (has_content f v) _ _ h in record { len = p.0; content = p.1 }

pub short_for : (n : ℕ) (f : FieldForm) (v : List ℕ) → form_of n ≡ Some f → has_length f (length v) ≡ true → length (text_for f v) ≤ 999
short_for n f v e h = short_text n f (length (text_for f v)) e (text_length_of f v h)

pub short_value : (n : ℕ) (f : FieldForm) (v : List ℕ) → form_of n ≡ Some f → refusal n v ≡ None → length (text_for f v) ≤ 999
short_value n f v e h =
    short_for n f v e (valid_by f n v (subst (λ (o : Option FieldForm). refusal_by o n v ≡ None) e h)).len

pub fixed_fits : (n : ℕ) (f : FieldForm) (c : Content) (exact : ℕ) (v : List ℕ) → form_of n ≡ Some f → f ≡ Fixed c exact → length v ≡ exact → length v ≤ 999
fixed_fits n f c exact v e k h = short_for n (Fixed c exact) v (e ∙ ap Some k) (equal-eqb (length v) exact h)

pub octets_fit : (f : FieldForm) (v : List ℕ) → f ≡ Binary → length v ≡ 8 → length (text_for f v) ≤ 999
octets_fit f v e h =
    let text : length (text_for f v) ≡ length (flat_map hex v) = ap (λ (g : FieldForm). length (text_for g v)) e in
    omega (arith, hex_length v)
