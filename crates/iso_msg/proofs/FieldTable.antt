-- What the table says of each number.
-- for: table::definition_at, table::form_at
use Rattle.std.proofs.Common.{◌≡◌, inl, inr, ◌&&◌, ◌||◌, ltb, ℕ, zero, suc, ◌+◌, ◌<◌, ◌≤◌, Bool, true, eqb, List, [], ◌∷◌, Option, Some}
use Rattle.std.proofs.Common.{None, get_or, refl, ap}
use Rattle.std.proofs.Common.{subst, ◌∙◌, arith}
use Rattle.std.proofs.lemmas.Bool.{eqb-true, ltb-true, lt-ltb}
use Rattle.iso_msg.specs.Values.{is_byte}
use Rattle.std.specs.List.{list_all}
use Rattle.iso_msg.proofs.Bools.{and_both, or_either, chosen, some_is}
use Rattle.iso_msg.specs.declared.table.FieldForm.{FieldForm}
use Rattle.iso_msg.specs.declared.table.FieldForm.TheVariants.{Fixed, Variable, Binary}
use Rattle.std.specs.Prelude.{option_map}
use Rattle.iso_msg.specs.declared.table.Definition.{Definition}
use Rattle.iso_msg.specs.Table.{FieldRow, form_of, rows, definition_in, definition_of, definitions, IsForm, IsKnown}

pub definitions_at : (k n i : ℕ) → i < k → get_or (definitions n k) i None ≡ definition_of (n + i)
definitions_at zero n i h = absurd (omega arith)
definitions_at (suc k) n zero h = ap definition_of (omega arith)
definitions_at (suc k) n (suc i) h = definitions_at k (suc n) i (omega arith) ∙ ap definition_of (omega arith)

abbrev is_form : FieldForm → Bool
is_form (Fixed c k) = true
is_form (Variable c p most) = (eqb p 2 && ltb most 100) || (eqb p 3 && ltb most 1000)
is_form Binary = true

abbrev is_row : ℕ → FieldForm → Bool
is_row n f = ltb 1 n && ltb n 129 && is_form f

rows_are : list_all (λ (r : FieldRow). is_row r.0 r.2) rows ≡ true
unfolding rows
rows_are = refl

row_is : (rs : List FieldRow) (n : ℕ) (d : Definition) → list_all (λ (r : FieldRow). is_row r.0 r.2) rs ≡ true → definition_in n rs ≡ Some d
    → is_row n d.form ≡ true
row_is [] n d h e = absurd cc
row_is (r ∷ rs) n d h e =
    let p = and_both (is_row r.0 r.2) (list_all (λ (r : FieldRow). is_row r.0 r.2) rs) h in
    let made : Definition = record { name = r.1; form = r.2 } in
    elim (chosen (eqb r.0 n) (Some made) (definition_in n rs) (Some d) e) [
      | inl w ↦ let k : r.0 ≡ n = eqb-true _ _ w.0 in let g : made ≡ d = some_is made d w.1 in
          subst (λ (x : Definition). is_row n x.form ≡ true) g (subst (λ m. is_row m r.2 ≡ true) k p.0)
      | inr w ↦ row_is rs n d p.1 w.1
    ]

definition_is_row : (n : ℕ) (d : Definition) → definition_of n ≡ Some d → is_row n d.form ≡ true
unfolding definition_of
definition_is_row n d e = row_is rows n d rows_are e

-- a form is that of a definition
form_from : (o : Option Definition) (f : FieldForm) → option_map (λ (d : Definition). d.form) o ≡ Some f → (d : Definition) × (o ≡ Some d) × (d.form ≡ f)
form_from None f e = absurd cc
form_from (Some d) f e = (d, refl, some_is d.form f e)

form_is_row : (n : ℕ) (f : FieldForm) → form_of n ≡ Some f → is_row n f ≡ true
unfolding form_of
form_is_row n f e =
    let s = form_from (definition_of n) f e in
    subst (λ (x : FieldForm). is_row n x ≡ true) s.2 (definition_is_row n s.0 s.1)

pub form_number : (n : ℕ) (f : FieldForm) → form_of n ≡ Some f → (1 < n) × (n < 129)
form_number n f e =
    let p = and_both (ltb 1 n && ltb n 129) (is_form f) (form_is_row n f e) in
    let q = and_both (ltb 1 n) (ltb n 129) p.0 in
    (ltb-true _ _ q.0, ltb-true _ _ q.1)

is_form-IsForm : (f : FieldForm) → is_form f ≡ true → IsForm f
is_form-IsForm (Fixed c k) h = tt
is_form-IsForm (Variable c p most) h =
    elim (or_either (eqb p 2 && ltb most 100) (eqb p 3 && ltb most 1000) h) [
      | inl w ↦ let q = and_both (eqb p 2) (ltb most 100) w in inl (eqb-true _ _ q.0, ltb-true _ _ q.1)
      | inr w ↦ let q = and_both (eqb p 3) (ltb most 1000) w in inr (eqb-true _ _ q.0, ltb-true _ _ q.1)
    ]
is_form-IsForm Binary h = tt

pub form_is : (n : ℕ) (f : FieldForm) → form_of n ≡ Some f → IsForm f
form_is n f e = is_form-IsForm f (and_both (ltb 1 n && ltb n 129) (is_form f) (form_is_row n f e)).1

defined_below : (n : ℕ) (d : Definition) → definition_of n ≡ Some d → n < 129
defined_below n d e =
    let p = and_both (ltb 1 n && ltb n 129) (is_form d.form) (definition_is_row n d e) in
    ltb-true _ _ (and_both (ltb 1 n) (ltb n 129) p.0).1

none_by : (n : ℕ) (o : Option Definition) → definition_of n ≡ o → 129 ≤ n → definition_of n ≡ None
none_by n None e h = e
none_by n (Some d) e h = let p = defined_below n d e in absurd (omega arith)

pub none_past : (n : ℕ) → 129 ≤ n → definition_of n ≡ None
none_past n h = none_by n (definition_of n) refl h

-- the form that a definition gives
pub form_by : (n : ℕ) (o : Option Definition) → o ≡ definition_of n → option_map (λ (d : Definition). d.form) o ≡ form_of n
unfolding form_of
form_by n o e = ap (option_map (λ (d : Definition). d.form)) e

pub form_is_known : (n : ℕ) (o : Option FieldForm) → form_of n ≡ o → IsKnown n o
form_is_known n None e = tt
form_is_known n (Some f) e = let p = form_number n f e in (p.0, p.1, form_is n f e)

pub is_known : (n : ℕ) → IsKnown n (form_of n)
is_known n = form_is_known n (form_of n) refl

pub all_bytes : (v : List ℕ) → ((i : ℕ) → get_or v i 0 < 256) → list_all is_byte v ≡ true
all_bytes [] h = refl
all_bytes (b ∷ v) h = rw (lt-ltb b 256 (h 0)) (all_bytes v (λ i. h (suc i)))
