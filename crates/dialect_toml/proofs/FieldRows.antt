-- The rows of a draft are those of the tables of its fields.
-- for: laws::each_field_has_its_row
use Rattle.std.proofs.Common.{◌≡◌, ◌∙◌, ℕ, ◌≤◌, ◌<◌, Bool, true, false, List, [], ◌∷◌, ◌++◌, length, map, Option, Some, None, refl, sym, ap}
use Rattle.std.proofs.Common.{◌==◌, pos, negsuc, subst, arith, append_assoc, find, nat_le, option_map, option_and_then, unwrap_or, ℤ, true≢false, inl, inr}
use Rattle.std.specs.List.{AllByRecursion, list_any, range_with_len}
use Rattle.std.proofs.Math.Seq.{take-append_seam}
use Rattle.std.proofs.lemmas.Bool.{cases_Bool, eq-eqb, leb-false, leb-true}
use Rattle.std.proofs.lemmas.List.{get_or_past, length_push}
use Rattle.std.proofs.lemmas.List.Folds.{find-append}
use Rattle.std.proofs.lemmas.List.FromFn.{get_or-map-range_with_len, length-map-range_with_len}
use Rattle.sw_base.specs.Refusals.{first_at, first_of, or_else, refused_if}
use Rattle.sw_base.proofs.Unrefused.{left_none, right_none}
use Rattle.toml.specs.Data.{Members, as_integer}
use Rattle.iso_dialect.specs.declared.coding.Page.{Page}
use Rattle.iso_dialect.specs.Profiles.{row_of}
use Rattle.dialect_toml.specs.declared.error.TableError.{TableError}
use Rattle.dialect_toml.specs.declared.keys.Key.TheVariants as key
use Rattle.dialect_toml.specs.declared.keys.Section.TheVariants as section
use Rattle.dialect_toml.specs.EachField.{StatesEach, StatesNoOther}
use Rattle.dialect_toml.specs.Faults.{double, fault_below, field_fault, first_fault, is_taken, path_of, table_fault}
use Rattle.dialect_toml.specs.Rows.{draft_of, page_of, row_at, row_in, rows_of}
use Rattle.dialect_toml.specs.Tables.{fields_of, number_of, value_at, within}

not_refused : (b : Bool) (e : TableError) → refused_if b e ≡ None → b ≡ false
not_refused false e h = refl
not_refused true e h = absurd (cc)

none_found : {X : Type 0} (test : X → Bool) (xs : List X) → list_any test xs ≡ false → find test xs ≡ None
none_found test [] h = refl
none_found test (x ∷ xs) h = elim (cases_Bool (test x)) [
  | inl passing ↦ absurd (true≢false (rw passing at h))
  | inr failing ↦ rw failing (none_found test xs (rw failing at h))
]

module _ (p : Page) where
  -- the row of a table, where no earlier one has its number
  here : (front ys : List Members) (y : Members) → is_taken front (number_of y) ≡ false →
      row_at p (front ++ y ∷ ys) (number_of y) ≡ Some (row_in p y)
  here front ys y free =
      let test = λ (ms : Members). number_of ms == number_of y in
      ap (option_map (row_in p)) (find-append test front (y ∷ ys))
      ∙ rw (none_found test front free, eq-eqb (number_of y) (number_of y) refl) refl

  each : (front rest : List Members) → first_at (double (front ++ rest)) (length front) rest ≡ None →
      AllByRecursion (λ ms. row_at p (front ++ rest) (number_of ms) ≡ Some (row_in p ms)) rest
  each front [] h = tt
  each front (y ∷ ys) h =
      let taken = not_refused _ _ (left_none _ _ h) in
      let free : is_taken front (number_of y) ≡ false =
      ap (λ (xs : List Members). is_taken xs (number_of y)) (sym (take-append_seam front (y ∷ ys))) ∙ taken in
      let later : first_at (double ((front ++ y ∷ []) ++ ys)) (length (front ++ y ∷ [])) ys ≡ None =
      ap (λ (all : List Members). first_at (double all) (length (front ++ y ∷ [])) ys) (append_assoc front (y ∷ []) ys)
      ∙ ap (λ (n : ℕ). first_at (double (front ++ y ∷ ys)) n ys) (length_push front y)
      ∙ right_none _ _ h in (
        here front ys y free,
        subst (λ (all : List Members). AllByRecursion (λ ms. row_at p all (number_of ms) ≡ Some (row_in p ms)) ys) (append_assoc front (y ∷ []) ys)
            (each (front ++ y ∷ []) ys later),
      )

within_most : (most : ℕ) (z : ℤ) → unwrap_or (within most z) 0 ≤ most
within_most most (negsuc n) = omega arith
within_most most (pos n) = elim (cases_Bool (nat_le n most)) [
  | inl passing ↦ rw passing (leb-true n most passing)
  | inr failing ↦ rw failing (omega arith)
]

most_of : (most : ℕ) (o : Option ℤ) → unwrap_or (option_and_then (within most) o) 0 ≤ most
most_of most None = omega arith
most_of most (Some z) = within_most most z

number_of-small : (ms : Members) → number_of ms ≤ 128
number_of-small ms = most_of 128 (option_and_then as_integer (value_at key.Number ms))

row_of-rows : (p : Page) (fields : List Members) (n : ℕ) → n < 129 → row_of (rows_of p fields) n ≡ row_at p fields n
unfolding rows_of
row_of-rows p fields n low = get_or-map-range_with_len (row_at p fields) 0 129 n n None low (omega arith)

all_to : {P Q : Members → Type 0} (xs : List Members) → ((x : Members) → P x → Q x) → AllByRecursion P xs → AllByRecursion Q xs
all_to [] on h = tt
all_to (x ∷ xs) on h = (on x h.0, all_to xs on h.1)

-- the last of several faults, where none is the first
last_none : (a b c d e : Option TableError) → first_of (a ∷ b ∷ c ∷ d ∷ e ∷ []) ≡ None → e ≡ None
last_none a b c d e h =
    let after = right_none d (or_else e None) (right_none c (or_else d (or_else e None)) (right_none b (or_else c (or_else d (or_else e None)))
    (right_none a (or_else b (or_else c (or_else d (or_else e None)))) h))) in
    left_none e None after

no_double : (top : Members) → first_fault top ≡ None → first_at (double (fields_of top)) 0 (fields_of top) ≡ None
unfolding first_fault
no_double top h =
    last_none (table_fault (path_of section.Top 0 top) top) (fault_below section.Frame key.Frame top) (fault_below section.Message key.Message top)
    (first_at field_fault 0 (fields_of top)) (first_at (double (fields_of top)) 0 (fields_of top)) h

pub states_each : StatesEach
unfolding draft_of
states_each top h =
    all_to (fields_of top)
    (λ ms is. row_of-rows (page_of top) (fields_of top) (number_of ms) (omega (arith, number_of-small ms)) ∙ is)
    (each (page_of top) [] (fields_of top) (no_double top h))

pub states_no_other : StatesNoOther
unfolding draft_of rows_of
states_no_other top n free =
    let f = row_at (page_of top) (fields_of top) in
    elim (cases_Bool (nat_le 129 n)) [
      | inl passing ↦
          let long : length (map f (range_with_len 0 129)) ≤ n =
          subst (λ (k : ℕ). k ≤ n) (sym (length-map-range_with_len f 0 129)) (leb-true 129 n passing) in
          get_or_past (map f (range_with_len 0 129)) n None long
      | inr failing ↦
          row_of-rows (page_of top) (fields_of top) n (leb-false 129 n failing)
          ∙ ap (option_map (row_in (page_of top))) (none_found (λ (ms : Members). number_of ms == n) (fields_of top) free)
    ]
