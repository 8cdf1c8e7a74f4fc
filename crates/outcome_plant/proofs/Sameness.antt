-- The outcome law's plant serves, takes and recovers what the plant that it represents does.
-- for: laws::turns_are_moves
use Rattle.std.proofs.Common.{◌≡◌, ℕ, List, [], ◌∷◌, ◌++◌, Option, refl, sym, ◌∙◌, ap, subst}
use Rattle.flow_model.specs.declared.flow.Flow.{Flow}
use Rattle.outcome_calls.specs.Core.{IdEvent}
use Rattle.outcome_calls.specs.Core as core
use Rattle.outcome_calls.specs.Plant as plant
use Rattle.outcome_calls.specs.Plant.{SessionEvent, AbstractPlant, by_ids, past, whole, view}
use Rattle.tx_history.specs.declared.event.Event.{Event}
use Rattle.tx_history.specs.History.{Start, recovering, serves}
use Rattle.tx_history.specs.Journal.{journal}
use Rattle.tx_history.specs.Views.{IsHistory}
use Rattle.outcome_history.specs.Looked.{id_view}
use Rattle.outcome_history.specs.Sessions.{session_event, session_events, id_events}
use Rattle.outcome_history.proofs.StatesAgree.{recovering_agree, serves_agree}
use Rattle.outcome_history.proofs.JournalsAgree.{journals_agree}
use Rattle.journal_store.proofs.HistoryChanges.{earlier}
use Rattle.tx_engine.specs.World.{World}
use Rattle.tx_plant.specs.declared.seat.Seat.{Seat}
use Rattle.tx_plant.specs.Plant.{Seen}
use Rattle.outcome_plant.specs.Mirrors.{Mirrors, later_events}

pub later_whole : (f : Flow) (v : Start) (done more : List Event) → later_events f v done more ++ session_events f v done ≡ session_events f v (more ++ done)
later_whole f v done [] = refl
later_whole f v done (e ∷ more) = ap (λ (es : List SessionEvent). session_event f v (more ++ done) e ∷ es) (later_whole f v done more)

pub past_same : (w : World) (seat : ℕ → Option Seat) (j : Seen) (a : AbstractPlant) → Mirrors w seat j a → past a ≡ session_events w.flow w.start w.past
past_same w seat j a m =
    ap (λ (l : List SessionEvent). l ++ a.gone) m.late
    ∙ (ap (λ (g : List SessionEvent). later_events w.flow w.start m.done m.more ++ g) m.gone
    ∙ (later_whole w.flow w.start m.done m.more ∙ ap (session_events w.flow w.start) (sym m.past)))

pub whole_same : (w : World) (seat : ℕ → Option Seat) (j : Seen) (a : AbstractPlant) → Mirrors w seat j a → whole w.flow a ≡ id_events w.flow w.start w.past
whole_same w seat j a m =
    ap (λ (v : core.IdView). by_ids w.flow v (past a)) m.start ∙ ap (by_ids w.flow (id_view w.flow w.start.view)) (past_same w seat j a m)

pub serves_same : (w : World) (seat : ℕ → Option Seat) (j : Seen) (a : AbstractPlant) (s : ℕ) → Mirrors w seat j a →
    plant.serves w.flow a.start (past a) s ≡ serves w.flow w.start w.past s
serves_same w seat j a s m =
    ap (λ (v : core.IdView). plant.serves w.flow v (past a) s) m.start
    ∙ (ap (λ (es : List SessionEvent). plant.serves w.flow (id_view w.flow w.start.view) es s) (past_same w seat j a m)
    ∙ serves_agree w.flow w.start w.past s m.engine.start.view.ordered m.engine.lawful.lawful)

pub recovering_there : (w : World) (seat : ℕ → Option Seat) (j : Seen) (a : AbstractPlant) → Mirrors w seat j a →
    plant.recovering w.flow a.start (whole w.flow a) ≡ recovering w.flow w.start w.past
recovering_there w seat j a m =
    ap (λ (v : core.IdView). plant.recovering w.flow v (whole w.flow a)) m.start
    ∙ (ap (plant.recovering w.flow (id_view w.flow w.start.view)) (whole_same w seat j a m)
    ∙ recovering_agree w.flow w.start w.past m.engine.start.view.ordered m.engine.lawful.lawful)

pub state_there : (w : World) (seat : ℕ → Option Seat) (j : Seen) (a : AbstractPlant) (id : ℕ) → Mirrors w seat j a →
    core.at w.flow a.start (whole w.flow a) id ≡ core.at w.flow (id_view w.flow w.start.view) (id_events w.flow w.start w.past) id
state_there w seat j a id m =
    ap (λ (v : core.IdView). core.at w.flow v (whole w.flow a) id) m.start ∙ ap (λ (l : List IdEvent). core.at w.flow (id_view w.flow w.start.view) l id)
    (whole_same w seat j a m)

-- a history's beginning is a history

pub begins_lawful : (w : World) (n : ℕ) (more done : List Event) → IsHistory w.flow w.start n (more ++ done) → IsHistory w.flow w.start n done
begins_lawful w n [] done h = h
begins_lawful w n (e ∷ more) done h = begins_lawful w n more done (earlier w.flow w.start n (more ++ done) e h)

pub done_lawful : (w : World) (seat : ℕ → Option Seat) (j : Seen) (a : AbstractPlant) (m : Mirrors w seat j a) → IsHistory w.flow w.start w.sessions m.done
done_lawful w seat j a m = begins_lawful w w.sessions m.more m.done (subst (IsHistory w.flow w.start w.sessions) m.past m.engine.lawful)

-- the journal is that of the written entries
pub view_there : (w : World) (seat : ℕ → Option Seat) (j : Seen) (a : AbstractPlant) (m : Mirrors w seat j a) →
    view w.flow a ≡ id_view w.flow (journal w.flow w.start m.done)
view_there w seat j a m =
    ap (λ (v : core.IdView). core.journal w.flow v (by_ids w.flow v a.gone)) m.start
    ∙ (ap (λ (g : List SessionEvent). core.journal w.flow (id_view w.flow w.start.view) (by_ids w.flow (id_view w.flow w.start.view) g)) m.gone
    ∙ journals_agree w.flow w.start m.done m.engine.start (done_lawful w seat j a m).lawful)
