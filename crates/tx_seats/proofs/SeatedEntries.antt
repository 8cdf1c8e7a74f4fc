-- Entries that are no session's own, and writes, leave every session its seat.
-- for: laws::seats_are_held
use Rattle.std.proofs.Common.{◌≡◌, ◌≤◌, ℕ, inl, inr, List, ◌∷◌, Option, Result, Ok, Err, refl, sym, ◌∙◌, ap, subst, arith}
use Rattle.tx_machine.specs.Bounds.{after_newest}
use Rattle.tx_machine.specs.declared.values.Item.{Item}
use Rattle.tx_history.specs.declared.event.Event.{Event}
use Rattle.tx_history.specs.declared.event.Event.TheVariants.{Offered, Taken, Answered, Chose, Told, Recovered, Released, Acked, Broke, Cleared, LetGo, Closed}
use Rattle.tx_history.specs.History.{is_ended, own_items, reopened}
use Rattle.tx_history.specs.Views.{IsOrdered}
use Rattle.journal_store.specs.declared.error.JournalError.{JournalError}
use Rattle.tx_engine.specs.World.{World, happened}
use Rattle.tx_engine.specs.Replies.{kind_of}
use Rattle.tx_plant.specs.declared.turn.Outcome.{Outcome}
use Rattle.tx_plant.specs.declared.turn.Outcome.TheVariants as outcome
use Rattle.tx_plant.specs.declared.turn.PlantError.{PlantError}
use Rattle.tx_plant.specs.declared.turn.Turn.{Turn}
use Rattle.tx_plant.specs.Steps.{Moved}
use Rattle.tx_plant.specs.Core.{Core}
use Rattle.tx_plant.specs.Plant.{IsEngine, Logged, Seen, Whole, Writes}
use Rattle.tx_plant.specs.Turns.{event_for, refusal_for}
use Rattle.tx_seats.specs.Seated.{IsUnfinished, Seated}
use Rattle.tx_seats.proofs.DueStands.{SameDue, marked_at, still_asked, still_due, still_written}
use Rattle.tx_seats.proofs.QuietTurns.{Enters, IsQuiet, entered, quiet_for}
use Rattle.tx_seats.proofs.SessionItems.{low_id}
use Rattle.tx_seats.proofs.SessionsStand.{Still, still_acked, still_broke, still_cleared, still_let_go, still_offered, still_released}
use Rattle.tx_history.proofs.OwnItems.{old_state}

abbrev pub in_world : Core → World → Core
in_world p to = record p { world = to }

-- a world in which the same calls are due
pub same_seats : (p : Core) (to : World) → Seated p → IsEngine to → to.sessions ≡ p.world.sessions → ((t : ℕ) → SameDue p.world to t) →
    ((id : ℕ) → IsUnfinished to id → IsUnfinished p.world id) → Seated (in_world p to)
same_seats p to h engine count same back = record {
  engine = engine;
  sessions = subst (λ (n : ℕ). 1 ≤ n) (sym count) h.sessions;
  places = h.places ∙ sym count;
  seats = λ s. h.seats s ∙ sym (same s).held;
  replies = λ s l r e k. still_asked p.world to s (kind_of r) (same s) (h.replies s l r e k);
  waits = λ id u d. h.waits id (back id u) (λ e. d ((same 0).held ∙ e));
}

-- one entry more

pub own_back : (w : World) (e : Event) (id : ℕ) → IsOrdered w.start.view → own_items w.flow w.start (e ∷ w.past) id ≡ own_items w.flow w.start w.past id →
    IsUnfinished (happened w e) id → IsUnfinished w id
own_back w e id o same u =
    let low = low_id w.start id u.row o u.there in
    let now = old_state w.flow w.start (e ∷ w.past) id u.row low u.there in
    let was = old_state w.flow w.start w.past id u.row low u.there in
    record {
      row = u.row;
      there = u.there;
      going = ap (is_ended w.flow) (was ∙ (ap (λ (items : List Item). after_newest w.flow (reopened w.flow u.row) items) (sym same) ∙ sym now)) ∙ u.going;
    }

quiet_still : (w : World) (e : Event) (t : ℕ) → IsEngine w → IsQuiet e → Still w.flow w.start w.past e t
quiet_still w (Offered c) t k q = still_offered w.flow w.start w.past c t k.start.view.ordered k.lawful.lawful
quiet_still w Released t k q = still_released w.flow w.start w.past t k.start.view.ordered k.lawful.lawful
quiet_still w (Acked id place) t k q = still_acked w.flow w.start w.past id place t
quiet_still w (Broke p) t k q = still_broke w.flow w.start w.past p t
quiet_still w (Cleared p) t k q = still_cleared w.flow w.start w.past p t
quiet_still w (LetGo s) t k q = still_let_go w.flow w.start w.past s t
quiet_still w (Taken s) t k q = absurd q
quiet_still w (Answered s b c) t k q = absurd q
quiet_still w (Chose s x) t k q = absurd q
quiet_still w (Told s a) t k q = absurd q
quiet_still w (Recovered s c) t k q = absurd q
quiet_still w (Closed id) t k q = absurd q

quiet_items : (w : World) (e : Event) (id : ℕ) → IsQuiet e → own_items w.flow w.start (e ∷ w.past) id ≡ own_items w.flow w.start w.past id
quiet_items w (Offered c) id q = refl
quiet_items w Released id q = refl
quiet_items w (Acked k place) id q = refl
quiet_items w (Broke p) id q = refl
quiet_items w (Cleared p) id q = refl
quiet_items w (LetGo s) id q = refl
quiet_items w (Taken s) id q = absurd q
quiet_items w (Answered s b c) id q = absurd q
quiet_items w (Chose s x) id q = absurd q
quiet_items w (Told s a) id q = absurd q
quiet_items w (Recovered s c) id q = absurd q
quiet_items w (Closed k) id q = absurd q

quiet_seated : (p : Core) (e : Event) → Seated p → IsEngine (happened p.world e) → IsQuiet e → Seated (in_world p (happened p.world e))
quiet_seated p e h engine q =
    same_seats p (happened p.world e) h engine refl (λ t. still_due p.world e t (quiet_still p.world e t h.engine q))
    (λ id u. own_back p.world e id h.engine.start.view.ordered (quiet_items p.world e id q) u)

enters_seated : (p : Core) (to : World) (t : Turn) → Seated p → IsEngine to → Enters (event_for p.world t) p.world to → Seated (in_world p to)
enters_seated p to t h engine (inl same) = subst (λ (w : World). Seated (in_world p w)) (sym same) h
enters_seated p to t h engine (inr (e, is, world)) = subst (λ (w : World). Seated (in_world p w)) (sym world)
    (quiet_seated p e h (subst IsEngine world engine) (quiet_for p.world t e is))

pub logged_seated : (p q : Whole) (t : Turn) (r : Result Outcome PlantError) (m : List Moved) → Seated p.core → IsEngine q.core.world → Logged t m p r q →
    Seated q.core
logged_seated p q t r m h engine k =
    subst Seated (sym k.1) (enters_seated p.core q.core.world t h engine (entered (event_for p.core.world t) (refusal_for p.core.world t) p.core.world k.2.0
    q.core.world k.2.2))

-- a write

wrote_seated : (p : Core) (n : ℕ) → Seated p → IsEngine (marked_at p.world n) → p.world.mark ≤ n → Seated (in_world p (marked_at p.world n))
wrote_seated p n h engine le = same_seats p (marked_at p.world n) h engine refl (λ t. still_written p.world n t le)
    (λ id u. record { row = u.row; there = u.there; going = u.going })

pub writes_seated : (p : Core) (q : World) (j k : Seen) (most : Option ℕ) (x : Result Outcome JournalError) → Seated p → IsEngine q →
    Writes most p.world j x q k → Seated (in_world p q)
writes_seated p q j k most (Ok (outcome.Written n)) h engine w =
    let number = w.0 in
    let le : p.world.mark ≤ n = omega arith in
    subst (λ (z : World). Seated (in_world p z)) (sym w.1) (wrote_seated p n h (subst IsEngine w.1 engine) le)
writes_seated p q j k most (Err e) h engine w = subst (λ (z : World). Seated (in_world p z)) (sym w.0) h
writes_seated p q j k most (Ok (outcome.Accepted n)) h engine w = absurd w
writes_seated p q j k most (Ok (outcome.Refused e)) h engine w = absurd w
writes_seated p q j k most (Ok outcome.Idle) h engine w = absurd w
writes_seated p q j k most (Ok outcome.Unwritten) h engine w = absurd w
writes_seated p q j k most (Ok (outcome.Held c)) h engine w = absurd w
writes_seated p q j k most (Ok (outcome.Restarted n)) h engine w = absurd w
writes_seated p q j k most (Ok (outcome.Cut n)) h engine w = absurd w
