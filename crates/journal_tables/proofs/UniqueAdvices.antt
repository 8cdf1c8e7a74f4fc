-- No two rows of `advice` are at one place of one id, so the view of a journal without a fault is sound.
-- for: laws::read_views_are_sound
use Rattle.std.proofs.Common.{◌≡◌, ◌≤◌, ℤ, true, false, ◌&&◌, [], ◌∷◌, Less, IsTrue, sym, ap, subst, ◌∙◌, true≢false}
use Rattle.std.specs.List.{AllByRecursion}
use Rattle.std.specs.Ordering.{is_eq, is_ne, ordering_reverse}
use Rattle.std.proofs.lemmas.Bool.{and_parts, not-true}
use Rattle.std.proofs.lemmas.Cmp.{tied_itself}
use Rattle.sqlite.specs.Collation.TheVariants.{Binary}
use Rattle.sqlite.specs.Effect.{Database}
use Rattle.sqlite_value.specs.declared.value.Value.{Value}
use Rattle.sqlite_value.specs.declared.value.Value.TheVariants.{Int}
use Rattle.sqlite_value.specs.Keys.{first_key, plain}
use Rattle.sqlite_value.specs.Order.{Row, column, value_cmp}
use Rattle.sqlite_value.proofs.OrderLemmas.{value_cmp_total}
use Rattle.sqlite_trees.specs.Tree.{Trees, rowid}
use Rattle.sqlite_trees.specs.View.{IsShaped, is_int}
use Rattle.sqlite_trees.specs.declared.store.Shape.TheVariants.{Table}
use Rattle.sqlite_sql.specs.Ops.{binary}
use Rattle.sqlite_schema.specs.Rules.{Obeys, agree, clashes, differ, equal, passes}
use Rattle.sqlite_schema.specs.declared.schema.Constraint.TheVariants.{Unique}
use Rattle.sqlite_rules.specs.Edit.{id_in}
use Rattle.sqlite_rules.proofs.TableLemmas.{int_is}
use Rattle.sqlite_keyed.proofs.ListLemmas.{all_both, all_weaker, none_from_any}
use Rattle.tx_history.specs.declared.journal.JournalView.{JournalView}
use Rattle.tx_history.specs.Views.{IsOk}
use Rattle.journal_rows.specs.Reads.{IsInt, int_in}
use Rattle.journal_rows.specs.Faults.{IsViewIn}
use Rattle.journal_rows.specs.Tables.{tables_of}
use Rattle.journal_rows.proofs.SoundViews.{Apart, AreApart, ok_from}
use Rattle.journal_tables.specs.Schema.{advice, journal_schema}
use Rattle.journal_tables.specs.Steps.{IsJournal}
use Rattle.journal_tables.proofs.CascadeLemmas.{and_true, equals_int, truth}
use Rattle.journal_tables.proofs.Types.{advice_ints, standing_from}

same_cells : (v w : Value) → IsInt w → v ≡ w → equal Binary v w ≡ true
same_cells v w int same =
    let id = int_in w in
    (λ i. equal Binary ((same ∙ int) i) (int i)) ∙ equals_int (Int id) id ∙ ap is_eq (tied_itself value_cmp_total (Int id))

agree_places : (a b : Row) → IsInt (column b 1) × IsInt (column b 2) → column a 1 ≡ column b 1 → column a 2 ≡ column b 2 →
    agree plain (1 ∷ 2 ∷ []) a (1 ∷ 2 ∷ []) b ≡ true
unfolding first_key
agree_places a b ints id place i = same_cells (column a 1) (column b 1) ints.0 id i && (and_true _ ∙ same_cells (column a 2) (column b 2) ints.1 place) i

above_differs : (a b : ℤ) → value_cmp (Int a) (Int b) ≡ Less → differ (Int b) (Int a) ≡ true
unfolding binary
above_differs a b less = truth _ ∙ ap is_ne (value_cmp_total.antisymm (Int b) (Int a) ∙ ap ordering_reverse less)

-- rowids that rise differ
rowids_differ : (a b : Row) → IsTrue (is_int (rowid a)) → IsTrue (is_int (rowid b)) → value_cmp (rowid a) (rowid b) ≡ Less → differ (rowid b) (rowid a) ≡ true
rowids_differ a b p q less =
    let one = int_is (rowid a) p in
    let two = int_is (rowid b) q in
    (λ i. differ (two i) (one i)) ∙ above_differs (id_in (rowid a)) (id_in (rowid b)) (sym (λ i. value_cmp (one i) (two i)) ∙ less)

apart_from : (a b : Row) → IsTrue (is_int (rowid a)) → IsInt (column a 1) × IsInt (column a 2) → IsTrue (is_int (rowid b)) →
    (agree plain (1 ∷ 2 ∷ []) b (1 ∷ 2 ∷ []) a && differ (rowid b) (rowid a)) ≡ false → Apart a b
apart_from a b p ints q alone id place less =
    let same = agree_places b a ints (sym id) (sym place) in
    let other = rowids_differ a b p q less in
    true≢false (sym (λ i. same i && other i) ∙ alone)

pub advices_apart : (db : Trees) → Obeys journal_schema db → IsShaped Table (db 5) → AreApart (db 5)
advices_apart db obeys shaped =
    let rows = db 5 in
    let clashing = all_weaker (λ r. passes Unique journal_schema db advice r ≡ true) (λ r. clashes plain (1 ∷ 2 ∷ []) rows r ≡ false)
    (λ r h. not-true _ (and_parts _ _ h).0) rows (obeys.rules Unique).1.1.1.1.0 in
    let cells = all_both (λ r. IsTrue (is_int (rowid r))) (λ r. IsInt (column r 1) × IsInt (column r 2))
    (λ r. IsTrue (is_int (rowid r)) × (IsInt (column r 1) × IsInt (column r 2))) (λ r p k. (p, k)) rows shaped.1 (advice_ints db obeys) in
    all_both (λ r. IsTrue (is_int (rowid r)) × (IsInt (column r 1) × IsInt (column r 2))) (λ r. clashes plain (1 ∷ 2 ∷ []) rows r ≡ false)
    (λ r. AllByRecursion (Apart r) rows)
    (λ a p alone. all_both (λ b. IsTrue (is_int (rowid b))) (λ b. (agree plain (1 ∷ 2 ∷ []) b (1 ∷ 2 ∷ []) a && differ (rowid b) (rowid a)) ≡ false) (Apart a)
    (λ b q k. apart_from a b p.0 p.1 q k) rows shaped.1 (none_from_any (λ b. agree plain (1 ∷ 2 ∷ []) b (1 ∷ 2 ∷ []) a && differ (rowid b) (rowid a)) rows
    alone)) rows cells clashing

pub sound_from : (db : Database) (v : JournalView) → IsJournal db → IsViewIn (tables_of db.trees) v → v.next_id ≤ 9223372036854775807 → IsOk v
sound_from db v j is last =
    let obeys = subst (λ s. Obeys s db.trees) j.schema j.sound.obeys in
    ok_from (tables_of db.trees) v (standing_from db v j is) is.sound (advices_apart db.trees obeys j.shaped.1.1.1.1.0) last
