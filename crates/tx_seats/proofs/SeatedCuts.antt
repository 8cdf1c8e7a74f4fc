-- After a cut no session holds anything, and none has a seat.
-- for: laws::seats_are_held
use Rattle.std.proofs.Common.{◌≡◌, ◌<◌, ◌≤◌, ◌==◌, ℕ, Bool, true, false, inl, inr, List, [], ◌∷◌, length, Option, Some, None, Result, Ok, Err, refl, sym, ◌∙◌}
use Rattle.std.proofs.Common.{ap, subst, arith}
use Rattle.std.specs.Prelude.{if◌then◌else◌, nat_lt}
use Rattle.std.specs.declared.alloc.AllocError.{AllocError}
use Rattle.std.proofs.lemmas.Bool.{cases_lt}
use Rattle.std.proofs.lemmas.Bool.Decides.{nat_tests}
use Rattle.std.proofs.Math.ListN.{get_or-eq_default}
use Rattle.flow_model.specs.declared.flow.Flow.{Flow}
use Rattle.tx_machine.specs.Bounds.{after_newest}
use Rattle.tx_machine.specs.declared.values.Item.{Item}
use Rattle.tx_history.specs.declared.event.Event.{Event}
use Rattle.tx_history.specs.declared.journal.Row.{Row}
use Rattle.tx_history.specs.Keys.{Rising, look}
use Rattle.tx_history.specs.History.{Start, first_unfinished, held_of, holds, ids, is_ended, next_id, or_taken, own_items, recovering, reopened, serves}
use Rattle.tx_history.specs.History.{state_of, taken}
use Rattle.tx_history.specs.Journal.{IsLawful, is_closed, journal, old_row, row, row_at, row_since}
use Rattle.tx_history.specs.Views.{AreSessions, IsOrdered}
use Rattle.tx_history.proofs.OwnItems.{found, old_state}
use Rattle.tx_history.proofs.RowCounts.{taker}
use Rattle.tx_history.proofs.Rows.{row_some}
use Rattle.tx_history.proofs.Sessions.{holds_recovered}
use Rattle.tx_history.proofs.SoundJournals.{look_gather}
use Rattle.tx_engine.specs.World.{World}
use Rattle.tx_engine.specs.Calls.{held_id}
use Rattle.tx_engine.specs.Cuts.{cut_refusal, cut_world, is_in_use}
use Rattle.tx_plant.specs.declared.turn.Outcome.{Outcome}
use Rattle.tx_plant.specs.declared.turn.Outcome.TheVariants as outcome
use Rattle.tx_plant.specs.Core.{Core}
use Rattle.tx_plant.specs.Plant.{IsEngine}
use Rattle.tx_plant.specs.Turns.{Cuts}
use Rattle.tx_seats.specs.Seated.{IsUnfinished, Seated, seat_id}
use Rattle.tx_seats.proofs.FreeSessions.{allowed_by, free_session}
use Rattle.tx_seats.proofs.DueStands.{SameDue}
use Rattle.tx_seats.proofs.SeatedEntries.{in_world, same_seats}
use Rattle.tx_seats.proofs.SessionItems.{all_over, low_id}

-- nobody holds anything

pub no_holder : (p : Core) (s : ℕ) → Seated p → is_in_use p.world ≡ false → held_id p.world s ≡ None
no_holder p s h free = elim (cases_lt s p.world.sessions) [
  | inl low ↦ free_session p.world s free low
  | inr high ↦ (let places = h.places in
      let far : length p.seats ≤ s = omega arith in
      sym (h.seats s) ∙ ap seat_id (get_or-eq_default p.seats None far))
]

pub some_none : (id : ℕ) → ◌≡◌ {A = Option ℕ} None (Some id) → ⊥
some_none id e = cc

none_recovers : (f : Flow) (v : Start) (past : List Event) → IsOrdered v.view → holds f v past 0 ≡ None → (o : Option ℕ) → recovering f v past ≡ o → o ≡ None
none_recovers f v past o free None e = refl
none_recovers f v past o free (Some id) e = absurd (some_none id (sym free ∙ holds_recovered f v past id o e))

-- so each row that the journal has left is one with nobody to notify

old_over : (f : Flow) (q r : Row) (items : List Item) → row_since f q items ≡ Some r → is_ended f (after_newest f (reopened f q) items) ≡ true →
    is_ended f (reopened f r) ≡ true
old_over f q r [] h over = let same : q ≡ r = grind (arith) in subst (λ (x : Row). is_ended f (reopened f x) ≡ true) same over
old_over f q r (x ∷ xs) h over = absurd (let going = (row_some f (after_newest f (reopened f q) (x ∷ xs)) r h).0 in cc)

old_row_over : (f : Flow) (o : Option Row) (closed : Bool) (r : Row) (items : List Item) →
    ((q : Row) → o ≡ Some q → is_ended f (after_newest f (reopened f q) items) ≡ true) → old_row f o closed items ≡ Some r → is_ended f (reopened f r) ≡ true
old_row_over f None closed r items over h = absurd (cc)
old_row_over f (Some q) true r items over h = absurd (cc)
old_row_over f (Some q) false r items over h = old_over f q r items h (over q refl)

serves_taken : (b : Bool) (o t : Option ℕ) (id : ℕ) → o ≡ None → t ≡ Some id → (if b then or_taken o t else t) ≡ Some id
serves_taken true None t id none h = h
serves_taken true (Some k) t id none h = absurd (cc)
serves_taken false o t id none h = h

new_row_none : (f : Flow) (v : Start) (past : List Event) (n id : ℕ) (r : Row) → IsOrdered v.view → AreSessions n past → IsLawful f v past →
    recovering f v past ≡ None → ((s : ℕ) → holds f v past s ≡ None) → v.view.next_id ≤ id → id < next_id v past
    → row f (state_of f v past id) ≡ Some r → ⊥
new_row_none f v past n id r o ss law none free lo hi h =
    let going = (row_some f (state_of f v past id) r h).0 in
    let t = taker f v past n id o ss law lo hi going in
    let who : serves f v past t.session ≡ Some id = serves_taken (t.session == 0) (recovering f v past) (taken v past t.session) id none t.took in
    let held : holds f v past t.session ≡ Some id = ap (held_of f v past) who ∙ ap (λ (b : Bool). if b then None else Some id) going in
    some_none id (sym (free t.session) ∙ held)

row_over : (f : Flow) (v : Start) (past : List Event) (n id : ℕ) (r : Row) → IsOrdered v.view → AreSessions n past → IsLawful f v past →
    recovering f v past ≡ None → ((s : ℕ) → holds f v past s ≡ None) → id < next_id v past
    → (b : Bool) → nat_lt id v.view.next_id ≡ b → (if b then old_row f (look id v.view.rows) (is_closed past id) (own_items f v past id) else row f
    (state_of f v past id)) ≡ Some r → is_ended f (reopened f r) ≡ true
row_over f v past n id r o ss law none free hi true low h = old_row_over f (look id v.view.rows) (is_closed past id) r (own_items f v past id)
    (λ q e. all_over f v.view.rows (own_items f v past) id q none e) h
row_over f v past n id r o ss law none free hi false low h =
    let lo : v.view.next_id ≤ id = grind (arith, nat_tests) in
    absurd (new_row_none f v past n id r o ss law none free lo hi h)

rows_over : (w : World) (id : ℕ) (r : Row) → IsEngine w → ((s : ℕ) → held_id w s ≡ None) → look id (journal w.flow w.start w.past).rows ≡ Some r →
    is_ended w.flow (reopened w.flow r) ≡ true
rows_over w id r engine free h =
    let o = engine.start.view.ordered in
    let first = o.next in
    let none = none_recovers w.flow w.start w.past o (free 0) (recovering w.flow w.start w.past) refl in
    let k = look_gather (row_at w.flow w.start w.past) 1 (ids w.start w.past) id r h in
    let below = k.below in
    row_over w.flow w.start w.past w.sessions id r o engine.lawful.sessions engine.lawful.lawful none free (omega arith) (nat_lt id w.start.view.next_id)
    refl k.is

-- nothing is recovered afterwards

first_none : (f : Flow) (rows : List (ℕ × Row)) (items : ℕ → List Item) (m : ℕ) → Rising 1 m rows →
    ((id : ℕ) (r : Row) → look id rows ≡ Some r → is_ended f (after_newest f (reopened f r) (items id)) ≡ true) → (o : Option ℕ) →
    first_unfinished f rows items ≡ o → o ≡ None
first_none f rows items m rise over None e = refl
first_none f rows items m rise over (Some id) e = absurd (let w = found f rows items 1 m id rise e in let ended = over id w.row w.there in let going =
    w.unfinished in cc)

serves_nobody : (b : Bool) (o : Option ℕ) → o ≡ None → (if b then or_taken o None else None) ≡ None
serves_nobody true o none = ap (λ (o : Option ℕ). or_taken o None) none
serves_nobody false o none = refl

cut_free : (w : World) (s : ℕ) → IsEngine w → IsEngine (cut_world w) → ((s : ℕ) → held_id w s ≡ None) → held_id (cut_world w) s ≡ None
cut_free w s engine next free =
    let v : Start = (cut_world w).start in
    let none : recovering w.flow v [] ≡ None = first_none w.flow v.view.rows (own_items w.flow v []) v.view.next_id next.start.view.ordered.rows
    (λ id r h. rows_over w id r engine free h) (recovering w.flow v []) refl in
    ap (held_of w.flow v []) (serves_nobody (s == 0) (recovering w.flow v []) none)

cut_over : (w : World) (id : ℕ) → IsEngine w → IsEngine (cut_world w) → ((s : ℕ) → held_id w s ≡ None) → IsUnfinished (cut_world w) id → ⊥
cut_over w id engine next free u =
    let v : Start = (cut_world w).start in
    let over = rows_over w id u.row engine free u.there in
    let now = ap (is_ended w.flow) (old_state w.flow v [] id u.row (low_id v id u.row next.start.view.ordered u.there) u.there) in
    let going = u.going in
    true_false (sym over ∙ (sym now ∙ going))
  where
    true_false : true ≡ false → ⊥
    true_false e = cc

-- the cut

same_idle : (w to : World) (t : ℕ) → held_id w t ≡ None → held_id to t ≡ None → SameDue w to t
same_idle w to t was now = record {
  held = now ∙ sym was;
  written = λ id h u. absurd (some_none id (sym was ∙ h));
  call =
      λ id h. absurd (some_none id (sym was ∙ h));
}

cut_seated : (p : Core) → Seated p → IsEngine (cut_world p.world) → cut_refusal p.world ≡ None → Seated (in_world p (cut_world p.world))
cut_seated p h next allowed =
    let unused = (allowed_by (is_in_use p.world) (nat_lt p.world.mark (length p.world.past)) allowed).0 in
    let free : (s : ℕ) → held_id p.world s ≡ None = (λ s. no_holder p s h unused) in
    same_seats p (cut_world p.world) h next refl (λ t. same_idle p.world (cut_world p.world) t (free t) (cut_free p.world t h.engine next free))
    (λ id u. absurd (cut_over p.world id h.engine next free u))

pub cuts_seated : (p : Core) (q : World) (r : Result Outcome AllocError) → Seated p → IsEngine q → Cuts p.world r q → Seated (in_world p q)
cuts_seated p q (Ok (outcome.Cut n)) h engine k = subst (λ (w : World). Seated (in_world p w)) (sym k.2) (cut_seated p h (subst IsEngine k.2 engine) k.0)
cuts_seated p q (Ok (outcome.Refused e)) h engine k = subst (λ (w : World). Seated (in_world p w)) (sym k.1) h
cuts_seated p q (Err x) h engine k = subst (λ (w : World). Seated (in_world p w)) (sym k) h
cuts_seated p q (Ok (outcome.Accepted n)) h engine k = absurd k
cuts_seated p q (Ok outcome.Idle) h engine k = absurd k
cuts_seated p q (Ok outcome.Unwritten) h engine k = absurd k
cuts_seated p q (Ok (outcome.Held c)) h engine k = absurd k
cuts_seated p q (Ok (outcome.Written n)) h engine k = absurd k
cuts_seated p q (Ok (outcome.Restarted n)) h engine k = absurd k
