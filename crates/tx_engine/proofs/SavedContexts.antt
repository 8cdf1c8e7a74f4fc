-- The contexts that an engine keeps as bytes are the bytes of contexts.
-- for: engine::Engine::take, engine::Engine::saved
use Rattle.std.proofs.Common.{◌≡◌, ℕ, ◌<◌, ◌≤◌, Bool, true, false, List, length, Some, refl, sym, subst, arith}
use Rattle.std.specs.Prelude.{nat_lt, slice_get}
use Rattle.std.specs.List.{All}
use Rattle.std.proofs.lemmas.Bool.Decides.{nat_tests}
use Rattle.std.proofs.lemmas.List.Elements.{All-drop, All-get_or}
use Rattle.std.proofs.lemmas.Option.{get_or_from_slice_get, slice_get_within}
use Rattle.sw_context.specs.Spelling.{IsSpelled}
use Rattle.flow_model.specs.declared.flow.Flow.{Flow}
use Rattle.tx_machine.specs.Contract.{tx_state}
use Rattle.tx_machine.specs.Table.{TxState}
use Rattle.tx_machine.specs.Bounds.{after_newest}
use Rattle.tx_history.specs.declared.event.Event.{Event}
use Rattle.tx_history.specs.declared.event.Entry.{Entry}
use Rattle.tx_history.specs.declared.journal.WaitingContext.{WaitingContext}
use Rattle.tx_history.specs.History.{Start, arrivals, next_id, own_items, queue, reopened, serves, state_of, takes}
use Rattle.tx_history.specs.Views.{StartFits, WaitingFits}
use Rattle.tx_history.proofs.OwnItems.{FoundRow, Old, old_stays, serves_below, serves_old}
use Rattle.tx_history.proofs.SoundJournals.{Good, good}
use Rattle.tx_slots.specs.declared.slot.Hold.{Hold}
use Rattle.tx_engine.specs.World.{World}
use Rattle.tx_engine.specs.Kept.{HoldIs, Kept, Running}
use Rattle.tx_engine.proofs.Keeps.{state_served}

good_kept : (w : World) (es : List Entry) (r : Running) → Kept w es r → Good w.flow w.start w.past
good_kept w es r k = good w.flow w.start w.past k.flow k.start k.past.spelled k.past.lawful

-- the queue's first
pub first_spelled : (w : World) (es : List Entry) (r : Running) (first : WaitingContext) → Kept w es r →
    slice_get (queue w.flow w.start w.past) 0 ≡ Some first → IsSpelled first.context
first_spelled w es r first k there =
    let waits : List WaitingContext = queue w.flow w.start w.past in
    let all : All WaitingFits waits = All-drop WaitingFits (takes w.past) (arrivals w.flow w.start w.past) (good_kept w es r k).arrived in
    let within : 0 < length waits = slice_get_within waits 0 first there in
    let fits : WaitingFits first = subst WaitingFits (get_or_from_slice_get waits 0 first first there) (All-get_or WaitingFits waits 0 first within all) in
    fits.context

-- a journalled transaction keeps the context of its row
saved_old : (f : Flow) (v : Start) (past : List Event) (id : ℕ) → StartFits f v → id < v.view.next_id → FoundRow f v.view.rows (own_items f v past) id →
    IsSpelled (state_of f v past id).saved
saved_old f v past id st lt w =
    let old : nat_lt id v.view.next_id ≡ true = grind (arith, nat_tests) in
    let items = own_items f v past id in
    let stays : Old (reopened f w.row) (after_newest f (reopened f w.row) items) = old_stays f (reopened f w.row) items refl refl in
    let kept : IsSpelled (after_newest f (reopened f w.row) items).saved = subst IsSpelled (sym stays.saved) (st.view.rows id w.row w.there).context in
    rw (old, w.there) kept

-- what a session's transaction has saved
pub saved_spelled : (w : World) (es : List Entry) (r : Running) (s : ℕ) (h : Hold) → Kept w es r → HoldIs w.flow w.start w.past s h →
    IsSpelled (tx_state w.flow h.machine).saved
saved_spelled w es r s h k is =
    let held = state_served w.flow w.start w.past (serves w.flow w.start w.past s) h.id (tx_state w.flow h.machine) is.serves in
    let lt : h.id < next_id w.start w.past = (serves_below w.flow w.start w.past s h.id k.start.view.ordered held.0).1 in
    subst (λ (st : TxState). IsSpelled st.saved) held.1 (by held.0 lt (nat_lt h.id w.start.view.next_id) refl)
  where
    by : serves w.flow w.start w.past s ≡ Some h.id → h.id < next_id w.start w.past → (b : Bool) → nat_lt h.id w.start.view.next_id ≡ b →
        IsSpelled (state_of w.flow w.start w.past h.id).saved
    by served lt true e =
        let below : h.id < w.start.view.next_id = grind (arith, nat_tests) in
        saved_old w.flow w.start w.past h.id k.start below (serves_old w.flow w.start w.past s h.id k.start.view.ordered served below)
    by served lt false e =
        let above : w.start.view.next_id ≤ h.id = grind (arith, nat_tests) in
        ((good_kept w es r k).proper h.id above lt).saved
