-- The rows of a table as pairs of a rowid and the columns after it, in the order of the rowids.
-- for: whoever reads or changes a table
use Rattle.std.proofs.Common.{◌≡◌, ◌<ℤ◌, ℤ, List, [], ◌∷◌, map, drop, true, Less, IsTrue, refl, sym, ap, subst, ◌∙◌, true≢false}
use Rattle.std.specs.List.{AllByRecursion}
use Rattle.sqlite.specs.declared.types.Value.{Value}
use Rattle.sqlite.specs.declared.types.Value.TheVariants.{Int}
use Rattle.sqlite_value.specs.Order.{Row, value_cmp}
use Rattle.sqlite_value.proofs.OrderLemmas.{value_cmp-Int}
use Rattle.sqlite_trees.specs.Tree.{rowid}
use Rattle.sqlite_trees.specs.View.{IsShaped, is_int}
use Rattle.sqlite_trees.specs.declared.store.Shape.TheVariants.{Table}
use Rattle.sqlite_rules.specs.Edit.{id_in}
use Rattle.sqlite_rules.proofs.TableLemmas.{int_is}
use Rattle.sqlite_keyed.specs.Keyed.{IsKeyedBy}
use Rattle.sqlite_keyed.proofs.KeyedLemmas.{lt_from_Less}

-- a row as its rowid and its columns
abbrev pub Pair : Type 0
Pair = ℤ × Row

abbrev pub split : Row → Pair
split r = (id_in (rowid r), drop 1 r)

abbrev pub whole : Pair → Row
whole p = Int p.0 ∷ p.1

abbrev pub key : Pair → ℤ
key p = p.0

pub split_back : (r : Row) → IsTrue (is_int (rowid r)) → r ≡ whole (split r)
split_back [] h = absurd (true≢false (sym h))
split_back (v ∷ r) h = ap (λ x. x ∷ r) (int_is v h)

pub stored_rows : (rows : List Row) → AllByRecursion (λ r. IsTrue (is_int (rowid r))) rows → rows ≡ map whole (map split rows)
stored_rows [] h = refl
stored_rows (r ∷ rows) h = λ i. split_back r h.0 i ∷ stored_rows rows h.1 i

above : (n : Value) (rows : List Row) → is_int n ≡ true → AllByRecursion (λ r. value_cmp n (rowid r) ≡ Less) rows →
    AllByRecursion (λ r. IsTrue (is_int (rowid r))) rows
    → AllByRecursion (λ (p : Pair). id_in n <ℤ key p) (map split rows)
above n [] int h ints = tt
above n (r ∷ rows) int h ints =
    let same : value_cmp (Int (id_in n)) (Int (id_in (rowid r))) ≡ Less =
    subst (λ v. value_cmp v (Int (id_in (rowid r))) ≡ Less) (int_is n int) (subst (λ v. value_cmp n v ≡ Less) (int_is (rowid r) ints.0) h.0) in
    (lt_from_Less _ _ (sym (value_cmp-Int _ _) ∙ same), above n rows int h.1 ints.1)

pub rising_rows : (rows : List Row) → IsShaped Table rows → IsKeyedBy key (map split rows)
rising_rows [] h = tt
rising_rows (r ∷ rows) h = (above (rowid r) rows h.1.0 h.0.0 h.1.1, rising_rows rows (h.0.1, h.1.1))
