-- The due call of a session that an event, or a write, is not for.
-- for: laws::seats_are_held
use Rattle.std.proofs.Common.{◌≡◌, ℕ, ◌<◌, ◌≤◌, Bool, true, false, List, ◌∷◌, Option, Some, None, refl, sym, ◌∙◌, ap, subst, arith}
use Rattle.std.specs.Prelude.{if◌then◌else◌, nat_lt, not, ◌&&◌}
use Rattle.std.proofs.lemmas.Bool.Decides.{nat_tests}
use Rattle.sw_participant.specs.declared.call.Call.{Call}
use Rattle.flow_model.specs.declared.flow.Flow.{Flow}
use Rattle.tx_machine.specs.Due.{due_of}
use Rattle.tx_machine.specs.Table.{TxState}
use Rattle.tx_history.specs.declared.event.Event.{Event}
use Rattle.tx_history.specs.History.{Start, is_held_at, is_restored, last_of, marked, outcome_of, restores, serves, state_of}
use Rattle.tx_history.specs.Held.{state_of_served}
use Rattle.tx_history.proofs.OwnItems.{holds_serves}
use Rattle.tx_slots.specs.declared.next.ReplyKind.{ReplyKind}
use Rattle.tx_slots.specs.DueCalls.{asked, asks_for, call_with, next_by}
use Rattle.tx_engine.specs.Kept.{going_on}
use Rattle.tx_engine.specs.World.{World, happened}
use Rattle.tx_engine.specs.Calls.{due_call, held_id, is_unwritten, next_in, next_of}
use Rattle.tx_engine.proofs.Keeps.{holds_is, state_served}
use Rattle.tx_seats.proofs.SessionsStand.{Still}

-- the session holds what it held, and the same call is due
pub record SameDue (w to : World) (t : ℕ) : Type 0 where
  pub held : held_id to t ≡ held_id w t
  pub written : (id : ℕ) → held_id w t ≡ Some id → is_unwritten w id ≡ false → is_unwritten to id ≡ false
  pub call : (id : ℕ) → held_id w t ≡ Some id → due_call to id ≡ due_call w id

pub nothing_new : (w : World) (t : ℕ) → SameDue w w t
nothing_new w t = record { held = refl; written = λ id h u. u; call = λ id h. refl }

-- a reply that is asked for

pub record Asks (k : ReplyKind) (unwritten : Bool) (o : Option Call) : Type 0 where
  pub call : Call
  pub written : unwritten ≡ false
  pub due : o ≡ Some call
  pub fits : asks_for k call.act ≡ true

asks_by : (k : ReplyKind) (a b : Bool) (o : Option Call) → asked k (next_by a b o) ≡ true → Asks k a o
asks_by k true b None h = absurd (cc)
asks_by k false b None h = absurd (cc)
asks_by k true b (Some c) h = absurd (cc)
asks_by k false true (Some c) h = record { call = c; written = refl; due = refl; fits = h }
asks_by k false false (Some c) h = record { call = c; written = refl; due = refl; fits = h }

asked_if : (k : ReplyKind) (b : Bool) (c : Call) → asks_for k c.act ≡ true → asked k (next_by false b (Some c)) ≡ true
asked_if k true c h = h
asked_if k false c h = h

asked_by : (k : ReplyKind) (a b : Bool) (o : Option Call) (c : Call) → a ≡ false → o ≡ Some c → asks_for k c.act ≡ true → asked k (next_by a b o) ≡ true
asked_by k a b o c u e h = rw (u, e) (asked_if k b c h)

still_asked_by : (w to : World) (t : ℕ) (k : ReplyKind) → SameDue w to t → (o : Option ℕ) → held_id w t ≡ o → asked k (next_in w t o) ≡ true →
    asked k (next_of to t) ≡ true
still_asked_by w to t k same None e h = absurd (cc)
still_asked_by w to t k same (Some id) e h =
    let z = asks_by k (is_unwritten w id) (is_held_at w.flow w.start w.past t (Some id)) (due_call w id) h in
    subst (λ (o : Option ℕ). asked k (next_in to t o) ≡ true) (sym (same.held ∙ e))
    (asked_by k (is_unwritten to id) (is_held_at to.flow to.start to.past t (Some id)) (due_call to id) z.call (same.written id e z.written)
    (same.call id e ∙ z.due) z.fits)

pub still_asked : (w to : World) (t : ℕ) (k : ReplyKind) → SameDue w to t → asked k (next_of w t) ≡ true → asked k (next_of to t) ≡ true
still_asked w to t k same h = still_asked_by w to t k same (held_id w t) refl h

-- an event that leaves the session as it stands

restores_if : (f : Flow) (v : Start) (past : List Event) (e : Event) (id : ℕ) (st : TxState) →
    (id < v.view.next_id → is_restored (e ∷ past) ≡ is_restored past) → (b : Bool) → nat_lt id v.view.next_id ≡ b
    → (if b && not (is_restored (e ∷ past)) then marked f (outcome_of (due_of f st)) else None)
    ≡ (if b && not (is_restored past) then marked f (outcome_of (due_of f st)) else None)
restores_if f v past e id st same false low = refl
restores_if f v past e id st same true low =
    let lt : id < v.view.next_id = grind (arith, nat_tests) in
    ap (λ (r : Bool). if true && not r then marked f (outcome_of (due_of f st)) else None) (same lt)

restores_same : (f : Flow) (v : Start) (past : List Event) (e : Event) (id : ℕ) → state_of f v (e ∷ past) id ≡ state_of f v past id →
    (id < v.view.next_id → is_restored (e ∷ past) ≡ is_restored past) → restores f v (e ∷ past) id ≡ restores f v past id
restores_same f v past e id state same =
    ap (λ (st : TxState). if nat_lt id v.view.next_id && not (is_restored (e ∷ past)) then marked f (outcome_of (due_of f st)) else None) state
    ∙ restores_if f v past e id (state_of f v past id) same (nat_lt id v.view.next_id) refl

call_same : (f : Flow) (v : Start) (past : List Event) (e : Event) (id : ℕ) → state_of f v (e ∷ past) id ≡ state_of f v past id →
    restores f v (e ∷ past) id ≡ restores f v past id
    → call_with id (nat_lt id v.view.next_id) (due_of f (state_of f v (e ∷ past) id)) (restores f v (e ∷ past) id) ≡ call_with id (nat_lt id v.view.next_id)
    (due_of f (state_of f v past id)) (restores f v past id)
call_same f v past e id state again =
    ap (λ (st : TxState). call_with id (nat_lt id v.view.next_id) (due_of f st) (restores f v (e ∷ past) id)) state
    ∙ ap (λ (r : Option (ℕ × Bool)). call_with id (nat_lt id v.view.next_id) (due_of f (state_of f v past id)) r) again

pub still_state : (f : Flow) (v : Start) (past : List Event) (e : Event) (t id : ℕ) → Still f v past e t → serves f v past t ≡ Some id →
    state_of f v (e ∷ past) id ≡ state_of f v past id
still_state f v past e t id k h = (state_served f v (e ∷ past) (serves f v (e ∷ past) t) id (state_of f v past id)
    (k.state ∙ ap (state_of_served f v past) h)).1

pub still_due : (w : World) (e : Event) (t : ℕ) → Still w.flow w.start w.past e t → SameDue w (happened w e) t
still_due w e t k = record {
  held = holds_is w.flow w.start (e ∷ w.past) t ∙ (ap (going_on w.flow) k.state ∙ sym (holds_is w.flow w.start w.past t));
  written = λ id h u. (let who = (holds_serves w.flow w.start w.past t id h).0 in ap (λ (n : ℕ). nat_lt w.mark n) (k.last id who) ∙ u);
  call = λ id h. (let who = (holds_serves w.flow w.start w.past t id h).0 in
      let state = still_state w.flow w.start w.past e t id k who in
      call_same w.flow w.start w.past e id state (restores_same w.flow w.start w.past e id state (k.restored id who)));
}

-- the mark moves up

abbrev pub marked_at : World → ℕ → World
marked_at w n = record w { mark = n }

pub still_written : (w : World) (n t : ℕ) → w.mark ≤ n → SameDue w (marked_at w n) t
still_written w n t le = record {
  held = refl;
  written = λ id h u. (let last : last_of w.flow w.start w.past id ≤ w.mark = grind (arith, nat_tests) in
      let low : last_of w.flow w.start w.past id ≤ n = omega arith in
      let no : nat_lt n (last_of w.flow w.start w.past id) ≡ false = grind (arith, nat_tests) in
      no);
  call = λ id h. refl;
}
