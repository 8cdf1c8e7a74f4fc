-- What a sound journal gives by look-up.
-- for: laws::views_fit
use Rattle.std.proofs.Common.{◌≡◌, ℕ, ◌<◌, false, List, [], ◌∷◌, Option, Some, None, refl, ap, subst, arith}
use Rattle.std.specs.Prelude.{◌==◌, nat_lt, option_map}
use Rattle.std.proofs.lemmas.List.{length-map}
use Rattle.std.proofs.lemmas.Bool.Decides.{nat_tests}
use Rattle.flow_model.specs.declared.flow.Flow.{Flow}
use Rattle.tx_machine.specs.declared.values.Phase.{Phase}
use Rattle.tx_machine.specs.declared.values.Phase.TheVariants.{Preparing, Aborting, Committing, Undoing}
use Rattle.tx_machine.specs.Row.{Row as TxRow, IsInPhase}
use Rattle.outcome_calls.specs.Core.{ViewFits}
use Rattle.tx_history.specs.declared.journal.Row.{Row}
use Rattle.tx_history.specs.declared.journal.JournalView.{JournalView}
use Rattle.tx_history.specs.Keys.{look, Rising}
use Rattle.tx_history.specs.History.{number_of}
use Rattle.tx_history.specs.Views.{IsOk, RowFits, PlacesRise}
use Rattle.tx_history.proofs.RisingKeys.{look_within}
use Rattle.outcome_history.specs.Looked.{numbered, advice_at, id_view}

-- nothing stands under an id from the next one on
none_above : {A : Type 0} (rows : List (ℕ × A)) (m id : ℕ) → Rising 1 m rows → nat_lt id m ≡ false → (o : Option A) → look id rows ≡ o → o ≡ None
none_above rows m id rise out None e = refl
none_above rows m id rise out (Some r) e = absurd (let w = (look_within rows 1 m id r rise e).1 in grind (arith, nat_tests))

pub look_above : {A : Type 0} (rows : List (ℕ × A)) (m id : ℕ) → Rising 1 m rows → nat_lt id m ≡ false → look id rows ≡ None
look_above rows m id rise out = none_above rows m id rise out (look id rows) refl

pub advice_above : (xs : List ((ℕ × ℕ) × List ℕ)) (m id n : ℕ) → PlacesRise m xs → nat_lt id m ≡ false → advice_at (id, n) xs ≡ None
advice_above [] m id n rise out = refl
advice_above (x ∷ xs) m id n rise out =
    let lt : x.0.0 < m = rise.1 in
    let other : (x.0.0 == id) ≡ false = grind (arith, nat_tests) in
    rw other (advice_above xs m id n rise.4 out)

-- a row that a journal may hold is in its phase's bounds
no_doing : (f : Flow) (o : Option (List ℕ)) → o ≡ None → option_map (number_of f) o ≡ None
no_doing f None e = refl
no_doing f (Some n) e = absurd (cc)

row_in_phase : (f : Flow) (r : Row) (p : Phase) → r.phase ≡ p → RowFits r → IsInPhase p (numbered f r)
row_in_phase f r Preparing e fits = let w = fits.untold (rw e refl) in (w.0, rw (length-map r.joined (number_of f)) w.1)
row_in_phase f r Aborting e fits = let w = fits.untold (rw e refl) in (w.0, rw (length-map r.joined (number_of f)) w.1)
row_in_phase f r Committing e fits = let w = fits.telling (rw e refl) in
    (rw (length-map r.joined (number_of f)) w.1, no_doing f r.doing w.0, rw (length-map r.joined (number_of f)) fits.members)
row_in_phase f r Undoing e fits = let w = fits.telling (rw e refl) in
    (rw (length-map r.joined (number_of f)) w.1, no_doing f r.doing w.0, rw (length-map r.joined (number_of f)) fits.members)

-- what is found by number was found by name
pub record LookedRow (f : Flow) (o : Option Row) (r : TxRow) : Type 0 where
  pub row : Row
  pub there : o ≡ Some row
  pub is : numbered f row ≡ r

pub found_row : (f : Flow) (o : Option Row) (r : TxRow) → option_map (numbered f) o ≡ Some r → LookedRow f o r
found_row f None r h = absurd (cc)
found_row f (Some q) r h = record { row = q; there = refl; is = grind (arith, h) }

looked_fits : (f : Flow) (w : JournalView) (id : ℕ) (r : TxRow) → IsOk w → LookedRow f (look id w.rows) r → IsInPhase r.phase r
looked_fits f w id r ok k = subst (λ (r : TxRow). IsInPhase r.phase r) k.is (row_in_phase f k.row k.row.phase refl (ok.rows id k.row k.there))

pub view_fits : (f : Flow) (w : JournalView) → IsOk w → ViewFits (id_view f w)
view_fits f w ok = record {
  rows = λ id out. ap (option_map (numbered f)) (look_above w.rows w.next_id id ok.ordered.rows out);
  advices = λ id n out. advice_above w.advices w.next_id id n ok.advices out;
  ok = λ id r h. looked_fits f w id r ok (found_row f (look id w.rows) r h);
}
