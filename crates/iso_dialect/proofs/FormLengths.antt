-- How long the texts of fields in the switch are.
-- for: field::read_field_text, WrittenLength
use Rattle.std.proofs.Common.{◌≡◌, inl, inr, ℕ, ◌≤◌, Bool, true, eqb, leb, List, [], ◌∷◌, Option, Some, None, refl, subst, arith}
use Rattle.std.specs.Prelude.{option_map}
use Rattle.std.specs.List.{list_all}
use Rattle.std.proofs.lemmas.Bool.{eqb-true, leb-true}
use Rattle.iso_msg.proofs.Bools.{and_both, chosen, some_is}
use Rattle.iso_msg.specs.declared.table.FieldForm.{FieldForm}
use Rattle.iso_msg.specs.declared.table.FieldForm.TheVariants.{Fixed, Variable, Binary}
use Rattle.iso_msg.specs.declared.table.Definition.{Definition}
use Rattle.iso_msg.specs.Table.{FieldRow, form_of, rows, definition_in, definition_of}
use Rattle.iso_dialect.specs.Profiles.{has_text_length}

abbrev pub most_length : FieldForm → ℕ
most_length (Fixed c e) = e
most_length (Variable c d most) = most
most_length Binary = 16

abbrev is_short : FieldForm → Bool
is_short f = leb (most_length f) 999

rows_are : list_all (λ (r : FieldRow). is_short r.2) rows ≡ true
unfolding rows
rows_are = refl

row_is : (rs : List FieldRow) (n : ℕ) (d : Definition) → list_all (λ (r : FieldRow). is_short r.2) rs ≡ true → definition_in n rs ≡ Some d
    → is_short d.form ≡ true
row_is [] n d h e = absurd cc
row_is (r ∷ rs) n d h e =
    let p = and_both (is_short r.2) (list_all (λ (r : FieldRow). is_short r.2) rs) h in
    let made : Definition = record { name = r.1; form = r.2 } in
    elim (chosen (eqb r.0 n) (Some made) (definition_in n rs) (Some d) e) [
      | inl w ↦ let g : made ≡ d = some_is made d w.1 in subst (λ (x : Definition). is_short x.form ≡ true) g p.0
      | inr w ↦ row_is rs n d p.1 w.1
    ]

form_from : (o : Option Definition) (f : FieldForm) → option_map (λ (d : Definition). d.form) o ≡ Some f → (d : Definition) × (o ≡ Some d) × (d.form ≡ f)
form_from None f e = absurd cc
form_from (Some d) f e = (d, refl, some_is d.form f e)

short_form : (n : ℕ) (f : FieldForm) → form_of n ≡ Some f → is_short f ≡ true
unfolding form_of definition_of
short_form n f e =
    let s = form_from (definition_of n) f e in
    subst (λ (x : FieldForm). is_short x ≡ true) s.2 (row_is rows n s.0 rows_are s.1)

pub below_most : (f : FieldForm) (k : ℕ) → has_text_length f k ≡ true → k ≤ most_length f
below_most (Fixed c e) k h = omega (arith, eqb-true k e h)
below_most (Variable c d most) k h = leb-true k most h
below_most Binary k h = omega (arith, eqb-true k 16 h)

pub short_text : (n : ℕ) (f : FieldForm) (k : ℕ) → form_of n ≡ Some f → has_text_length f k ≡ true → k ≤ 999
short_text n f k e h = omega (arith, below_most f k h, leb-true (most_length f) 999 (short_form n f e))
