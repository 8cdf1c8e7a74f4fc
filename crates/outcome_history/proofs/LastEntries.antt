-- The last entry of a transaction, and the entries of an opening.
-- for: laws::sessions_agree
use Rattle.std.proofs.Common.{◌≡◌, ℕ, ◌+◌, List, [], ◌∷◌, length, Option, Some, None, refl, ◌∙◌, ap, suc}
use Rattle.std.specs.Prelude.{if◌then◌else◌, slice_get, ◌==◌}
use Rattle.flow_model.specs.declared.flow.Flow.{Flow}
use Rattle.outcome_calls.specs.One.{FullReply, Answer, Chosen, Advice, Restored}
use Rattle.outcome_calls.specs.Core as core
use Rattle.outcome_calls.specs.Core.{IdView, IdEvent}
use Rattle.outcome_calls.specs.Plant as plant
use Rattle.outcome_calls.specs.Plant.{given_to, last_own, shut, Replied, event_of}
use Rattle.tx_history.specs.declared.event.Event.{Event}
use Rattle.tx_history.specs.declared.event.Event.TheVariants.{Offered, Taken, Answered, Chose, Told, Recovered, Released, Acked, Broke, Cleared, LetGo, Closed}
use Rattle.tx_history.specs.History.{Start, is_id, next_id, serves, queue, last_of}
use Rattle.tx_history.specs.Journal.{IsLawful, to_close}
use Rattle.tx_history.specs.Lives.{closes_of, opened}
use Rattle.tx_history.specs.Views.{IsOrdered}
use Rattle.outcome_history.specs.Looked.{id_view, stacked, closings}
use Rattle.outcome_history.specs.Sessions.{session_events, id_events, head_of}
use Rattle.outcome_history.proofs.ServedSessions.{next_same}
use Rattle.outcome_history.proofs.StatesAgree.{serves_agree}

pub length_same : (f : Flow) (v : Start) (past : List Event) → length (id_events f v past) ≡ length past
length_same f v [] = refl
length_same f v (e ∷ past) = ap suc (length_same f v past)

-- an event speaks of the transaction that its session serves
pub speaks : (f : Flow) (v : Start) (past : List Event) (s : ℕ) (x : FullReply) → IsOrdered v.view → IsLawful f v past
    → event_of f (id_view f v.view) (plant.taken (id_view f v.view) (session_events f v past)) (id_events f v past) (Replied s x)
    ≡ given_to (serves f v past s) x
speaks f v past s x o law = ap (λ (t : Option ℕ). given_to t x) (serves_agree f v past s o law)

last_given : (v : IdView) (o : Option ℕ) (x : FullReply) (l : List IdEvent) (id : ℕ) →
    last_own v (given_to o x ∷ l) id ≡ (if is_id o id then length l + 1 else last_own v l id)
last_given v None x l id = refl
last_given v (Some k) x l id = refl

last_step : (f : Flow) (v : Start) (past : List Event) (s id n : ℕ) (x : FullReply) → IsOrdered v.view → IsLawful f v past →
    last_own (id_view f v.view) (id_events f v past) id ≡ n
    → last_own (id_view f v.view) (given_to (plant.serves f (id_view f v.view) (session_events f v past) s) x ∷ id_events f v past) id
    ≡ (if is_id (serves f v past s) id then length past + 1 else n)
last_step f v past s id n x o law same =
    last_given (id_view f v.view) (plant.serves f (id_view f v.view) (session_events f v past) s) x (id_events f v past) id
    ∙ (ap (λ (t : Option ℕ). if is_id t id then length (id_events f v past) + 1 else last_own (id_view f v.view) (id_events f v past) id)
    (serves_agree f v past s o law)
    ∙ (ap (λ (m : ℕ). if is_id (serves f v past s) id then m + 1 else last_own (id_view f v.view) (id_events f v past) id) (length_same f v past)
    ∙ ap (λ (m : ℕ). if is_id (serves f v past s) id then length past + 1 else m) same))

last_taken : (f : Flow) (v : Start) (past : List Event) (s id n : ℕ) → last_own (id_view f v.view) (id_events f v past) id ≡ n
    → last_own (id_view f v.view) (core.Took (head_of (slice_get (queue f v past) 0)) ∷ id_events f v past) id
    ≡ (if next_id v past == id then length past + 1 else n)
last_taken f v past s id n same =
    ap (λ (i : ℕ). if i == id then length (id_events f v past) + 1 else last_own (id_view f v.view) (id_events f v past) id) (next_same f v past)
    ∙ (ap (λ (m : ℕ). if next_id v past == id then m + 1 else last_own (id_view f v.view) (id_events f v past) id) (length_same f v past)
    ∙ ap (λ (m : ℕ). if next_id v past == id then length past + 1 else m) same)

pub last_same : (f : Flow) (v : Start) (past : List Event) (id : ℕ) → IsOrdered v.view → IsLawful f v past →
    last_own (id_view f v.view) (id_events f v past) id ≡ last_of f v past id
last_same f v [] id o law = refl
last_same f v (Offered x ∷ past) id o law = last_same f v past id o law.2
last_same f v (Taken t ∷ past) id o law = last_taken f v past t id (last_of f v past id) (last_same f v past id o law.2)
last_same f v (Answered t b x ∷ past) id o law = last_step f v past t id (last_of f v past id) (Answer b x) o law.2 (last_same f v past id o law.2)
last_same f v (Chose t x ∷ past) id o law = last_step f v past t id (last_of f v past id) (Chosen x) o law.2 (last_same f v past id o law.2)
last_same f v (Told t x ∷ past) id o law = last_step f v past t id (last_of f v past id) (Advice x) o law.2 (last_same f v past id o law.2)
last_same f v (Recovered t x ∷ past) id o law = last_step f v past t id (last_of f v past id) Restored o law.2 (last_same f v past id o law.2)
last_same f v (Released ∷ past) id o law = last_same f v past id o law.2
last_same f v (Acked k n ∷ past) id o law = last_same f v past id o law.2
last_same f v (Broke p ∷ past) id o law = last_same f v past id o law.2
last_same f v (Cleared p ∷ past) id o law = last_same f v past id o law.2
last_same f v (LetGo t ∷ past) id o law = last_same f v past id o law.2
last_same f v (Closed k ∷ past) id o law = last_same f v past id o law.2

-- the entries of an opening

closes_shut : (f : Flow) (v : Start) (ids done : List ℕ) (past : List Event) → session_events f v past ≡ shut done →
    session_events f v (closes_of ids past) ≡ shut (stacked ids done)
closes_shut f v [] done past e = e
closes_shut f v (id ∷ ids) done past e = closes_shut f v ids (id ∷ done) (Closed id ∷ past) (ap (λ (l : List plant.SessionEvent). plant.Closing id ∷ l) e)

pub opened_shut : (f : Flow) (v : Start) → session_events f v (opened f v) ≡ shut (closings f v)
opened_shut f v = closes_shut f v (to_close f v.view.rows) [] [] refl
