-- A step of a session: what it leaves of queue and takes, and of the contexts that ended; a step of session 0: also what it leaves
-- of the other sessions.
-- for: switch::Switch::run_next, serving::Switch::recover, leg::answer_leg
use Rattle.std.proofs.Common.{◌≡◌, ◌⊎◌, ℕ, suc, Bool, true, false, inl, inr, List, Option, Some, None, Result, Ok, Err, get_or, refl, ap, subst, ◌∙◌}
use Rattle.std.specs.Prelude.{slice_set}
use Rattle.std.specs.Ordering.{nat_cmp}
use Rattle.std.specs.BTreeMap.{insert_entry}
use Rattle.sw_context.specs.Pairs.{Pairs}
use Rattle.sw_participant.specs.declared.call.Call.{Call}
use Rattle.sw_participant.specs.declared.call.Reply.{Reply}
use Rattle.tx_machine.specs.declared.values.Due.{Due}
use Rattle.tx_machine.specs.declared.values.Due.TheVariants as due
use Rattle.tx_machine.specs.Due.{due_of}
use Rattle.tx_history.specs.declared.journal.Row.{Row}
use Rattle.tx_history.specs.declared.journal.WaitingContext.{WaitingContext}
use Rattle.tx_history.specs.History.{is_over, state_of}
use Rattle.tx_history.specs.Journal.{change}
use Rattle.tx_history.proofs.OwnItems.{holds_serves}
use Rattle.tx_slots.specs.declared.next.Next.{Next}
use Rattle.tx_slots.specs.declared.next.Next.TheVariants as next
use Rattle.tx_slots.specs.DueCalls.{call_with, next_by}
use Rattle.tx_engine.specs.World.{World, happened}
use Rattle.tx_engine.specs.Calls.{due_call, held_id, next_in, next_of}
use Rattle.tx_plant.specs.declared.seat.Seat.{Seat}
use Rattle.tx_plant.specs.declared.turn.Outcome.{Outcome}
use Rattle.tx_plant.specs.declared.turn.Outcome.TheVariants as outcome
use Rattle.tx_plant.specs.declared.turn.StepFault.{StepFault}
use Rattle.tx_plant.specs.Steps.{Asked, Moved, Rests, Serves, Waits, event_of}
use Rattle.tx_plant.specs.Core.{Core, ReseatsBy, Served, Stepped, fate_after, fate_by, left, newcomer, seat_of}
use Rattle.tx_plant.proofs.SeatFates.{leaves_by}
use Rattle.tx_seats.proofs.SeatSets.{set_there}

-- where a reply of a session leads the engine, if one was recorded
abbrev pub Enters : ℕ → World → World → Type 0
Enters s w to = (to ≡ w) ⊎ ((r : Reply) × (x : Pairs) × (to ≡ happened w (event_of s r x)))

-- the contexts that ended are the same, or there is that of the transaction that the session held
abbrev pub Adds : ℕ → Core → Core → Type 0
Adds s p q = (q.ended ≡ p.ended) ⊎ ((l : Seat) × (x : Pairs) × (seat_of p s ≡ Some l) × (q.ended ≡ insert_entry nat_cmp p.ended l.id x))

pub record Stepping (s : ℕ) (p q : Core) : Type 0 where
  pub enters : Enters s p.world q.world
  pub adds : Adds s p q

-- of session 0
pub record Steps (p q : Core) : Type 0 where
  pub enters : Enters 0 p.world q.world
  pub adds : Adds 0 p q
  pub others : (s : ℕ) → seat_of q (suc s) ≡ seat_of p (suc s)

pub steps_none : (p q : Core) → q ≡ p → Steps p q
steps_none p q same = rw same (record { enters = inl refl; adds = inl refl; others = λ s. refl })

pub other_seats : (xs : List (Option Seat)) (x : Option Seat) (s : ℕ) → get_or (slice_set xs 0 x) (suc s) None ≡ get_or xs (suc s) None
other_seats xs x s = set_there xs 0 (suc s) x (λ (e : 0 ≡ suc s). cc)

-- giving session 0 another transaction

pub record GivesSeat (p q : Core) : Type 0 where
  pub world : q.world ≡ p.world
  pub ended : q.ended ≡ p.ended
  pub others : (s : ℕ) → seat_of q (suc s) ≡ seat_of p (suc s)

gives_none : (p q : Core) → q ≡ p → GivesSeat p q
gives_none p q same = rw same (record { world = refl; ended = refl; others = λ s. refl })

pub gives_by : (o : Option Seat) (c : Option (ℕ × Pairs)) (p q : Core) → ReseatsBy o c p q → GivesSeat p q
gives_by None None p q h = gives_none p q h
gives_by None (Some x) p q h = record {
  world = ap (λ (c : Core). c.world) h.0;
  ended = ap (λ (c : Core). c.ended) h.0;
  others = λ s. ap (λ (c : Core). seat_of c (suc s)) h.0 ∙ other_seats p.seats _ s;
}
gives_by (Some l) c p q h = gives_none p q h

-- a reply

same_id : (n : Next) (told : ℕ) (l t : Seat) (m : List Moved) (r : Reply) → Asked n told l t m r → t.id ≡ l.id
same_id n told l t m r (kept, inl rests) = ap (λ (z : Seat). z.id) rests.0
same_id n told l t m r (kept, inr calls) = ap (λ (z : Seat). z.id) calls.seat

pub record Replies (s : ℕ) (w : World) (l t : Seat) (to : World) : Type 0 where
  pub enters : Enters s w to
  pub id : t.id ≡ l.id

replies_rests : (s : ℕ) (w to : World) (l t : Seat) (m : List Moved) → Rests l t m → to ≡ w → Replies s w l t to
replies_rests s w to l t m rests same = record { enters = inl same; id = ap (λ (z : Seat). z.id) rests.0 }

replies : (s : ℕ) (w to : World) (l t : Seat) (m : List Moved) (r : Result Outcome StepFault) → Serves w s l t m r to → Replies s w l t to
replies s w to l t m (Ok (outcome.Accepted n)) (c, r, asked, seat, recorded) = record {
  enters = inr (r, c.context, recorded.history);
  id = ap (λ (z : Seat). z.id) seat ∙ same_id _ _ l c m r asked;
}
replies s w to l t m (Ok (outcome.Refused e)) (inl stands) = replies_rests s w to l t m stands.2 stands.3
replies s w to l t m (Ok (outcome.Refused e)) (inr (r, refused, (asked, same))) = record { enters = inl same; id = same_id _ _ l t m r asked }
replies s w to l t m (Ok outcome.Idle) stands = replies_rests s w to l t m stands.2 stands.3
replies s w to l t m (Ok outcome.Unwritten) stands = replies_rests s w to l t m stands.2 stands.3
replies s w to l t m (Ok (outcome.Held call)) stands = replies_rests s w to l t m stands.2 stands.3
replies s w to l t m (Ok (outcome.Written n)) stands = replies_rests s w to l t m stands.2 stands.3
replies s w to l t m (Ok (outcome.Restarted n)) stands = replies_rests s w to l t m stands.2 stands.3
replies s w to l t m (Ok (outcome.Cut n)) stands = replies_rests s w to l t m stands.2 stands.3
replies s w to l t m (Err e) (inl rests) = replies_rests s w to l t m rests.0 rests.1
replies s w to l t m (Err e) (inr (r, (asked, same))) = record { enters = inl same; id = same_id _ _ l t m r asked }

adds_by : (s : ℕ) (row : Option (ℕ × Option Row)) (item : Option (ℕ × WaitingContext)) (p : Core) (l t : Seat) (to : World) → seat_of p s ≡ Some l → t.id ≡ l.id →
    Adds s p (left p s (fate_by row item) t to)
adds_by s None item p l t to there id = inl refl
adds_by s (Some (k, Some r)) item p l t to there id = inl refl
adds_by s (Some (k, None)) None p l t to there id = inr (l, t.context, there, ap (λ (n : ℕ). insert_entry nat_cmp p.ended n t.context) id)
adds_by s (Some (k, None)) (Some x) p l t to there id = inl refl

adds_of : (s : ℕ) (r : Result Outcome StepFault) (p : Core) (l t : Seat) (w to : World) → seat_of p s ≡ Some l → t.id ≡ l.id →
    Adds s p (left p s (fate_after r w) t to)
adds_of s (Ok (outcome.Accepted n)) p l t w to there id = adds_by s (change w.flow w.start w.past).row (change w.flow w.start w.past).shelved p l t to there id
adds_of s (Ok (outcome.Refused e)) p l t w to there id = inl refl
adds_of s (Ok outcome.Idle) p l t w to there id = inl refl
adds_of s (Ok outcome.Unwritten) p l t w to there id = inl refl
adds_of s (Ok (outcome.Held c)) p l t w to there id = inl refl
adds_of s (Ok (outcome.Written n)) p l t w to there id = inl refl
adds_of s (Ok (outcome.Restarted n)) p l t w to there id = inl refl
adds_of s (Ok (outcome.Cut n)) p l t w to there id = inl refl
adds_of s (Err e) p l t w to there id = inl refl

adds_same : (s : ℕ) (p q r : Core) → Adds s p q → r.ended ≡ q.ended → Adds s p r
adds_same s p q r (inl none) same = inl (same ∙ none)
adds_same s p q r (inr (l, x, there, more)) same = inr (l, x, there, same ∙ more)

-- what the session leaves of its transaction, before session 0 is given another
abbrev left_at : (s : ℕ) (p q : Core) (r : Result Outcome StepFault) → Seat → Core
left_at s p q r after = left p s (fate_after r q.world) after q.world

gives_of : (s : ℕ) (p q : Core) (m : List Moved) (r : Result Outcome StepFault) → (h : Served p s m r q) → GivesSeat (left_at s p q r h.after) q
gives_of s p q m r h =
    let to = left_at s p q r h.after in
    leaves_by (fate_after r q.world) to q (GivesSeat to q) h.leaves (gives_none to q) (gives_by (seat_of to 0) (newcomer to) to q)

stepping_served : (s : ℕ) (p q : Core) (m : List Moved) (r : Result Outcome StepFault) → Served p s m r q → Stepping s p q
stepping_served s p q m r h =
    let reply = replies s p.world q.world h.before h.after m r h.serves in
    record {
      enters = reply.enters;
      adds = adds_same s p (left_at s p q r h.after) q (adds_of s r p h.before h.after q.world q.world h.seated reply.id) (gives_of s p q m r h).ended;
    }

pub stepping_of : (s : ℕ) (p q : Core) (m : List Moved) (r : Result Outcome StepFault) → Stepped p s m r q → Stepping s p q
stepping_of s p q m r (inl stood) = (let same : q ≡ p = stood.0.1 in rw same (record { enters = inl refl; adds = inl refl }))
stepping_of s p q m r (inr served) = stepping_served s p q m r served

steps_served : (p q : Core) (m : List Moved) (r : Result Outcome StepFault) → Served p 0 m r q → Steps p q
steps_served p q m r h =
    let k = stepping_served 0 p q m r h in
    record { enters = k.enters; adds = k.adds; others = λ s. (gives_of 0 p q m r h).others s ∙ other_seats p.seats _ s }

pub steps_of : (p q : Core) (m : List Moved) (r : Result Outcome StepFault) → Stepped p 0 m r q → Steps p q
steps_of p q m r (inl stood) = steps_none p q stood.0.1
steps_of p q m r (inr served) = steps_served p q m r served

-- where it answers that the session is idle, nothing is due to it

same_idle : (o : Outcome) → ◌≡◌ {A = Result Outcome StepFault} (Ok outcome.Idle) (Ok o) → o ≡ outcome.Idle
same_idle o e = cc

stood_idle : (n : Next) (o : Outcome) → o ≡ outcome.Idle → Waits n o → n ≡ next.Idle
stood_idle n o same h = let waits : Waits n outcome.Idle = subst (Waits n) same h in waits

pub none_due : (p q : Core) (m : List Moved) → Stepped p 0 m (Ok outcome.Idle) q → next_of p.world 0 ≡ next.Idle
none_due p q m (inl (same, o, is, inl (e, refused, told))) = absurd (let i = same_idle o is in cc)
none_due p q m (inl (same, o, is, inr (free, waits))) = stood_idle (next_of p.world 0) o (same_idle o is) waits
none_due p q m (inr served) = served.serves.1

pub same_world : (p q : Core) (m : List Moved) → Stepped p 0 m (Ok outcome.Idle) q → q.world ≡ p.world
same_world p q m (inl stood) = ap (λ (c : Core). c.world) stood.0.1
same_world p q m (inr served) = served.serves.3

call_there : (id : ℕ) (recovering : Bool) (d : Due) (o : Option (ℕ × Bool)) → is_over d ≡ false → (c : Call) × (call_with id recovering d o ≡ Some c)
call_there id recovering d (Some r) going = (_, refl)
call_there id recovering (due.Prepare s) None going = (_, refl)
call_there id recovering (due.PrepareForAbort s) None going = (_, refl)
call_there id recovering (due.Select s) None going = (_, refl)
call_there id recovering (due.Commit p) None going = (_, refl)
call_there id recovering (due.Abort p) None going = (_, refl)
call_there id recovering due.Shelve None going = absurd (cc)
call_there id recovering due.Done None going = absurd (cc)

call_is_next : (a b : Bool) (o : Option Call) (c : Call) → o ≡ Some c → next_by a b o ≡ next.Idle → ⊥
call_is_next true b o c is none = let n : next_by true b (Some c) ≡ next.Idle = subst (λ (z : Option Call). next_by true b z ≡ next.Idle) is none in cc
call_is_next false true o c is none = let n : next_by false true (Some c) ≡ next.Idle =
    subst (λ (z : Option Call). next_by false true z ≡ next.Idle) is none in cc
call_is_next false false o c is none = let n : next_by false false (Some c) ≡ next.Idle =
    subst (λ (z : Option Call). next_by false false z ≡ next.Idle) is none in cc

none_held_by : (w : World) (s : ℕ) (o : Option ℕ) → held_id w s ≡ o → next_in w s o ≡ next.Idle → o ≡ None
none_held_by w s None held none = refl
none_held_by w s (Some id) held none =
    let going = (holds_serves w.flow w.start w.past s id held).1 in
    let call = call_there id _ (due_of w.flow (state_of w.flow w.start w.past id)) _ going in
    absurd (call_is_next _ _ (due_call w id) call.0 call.1 none)

pub none_held : (w : World) (s : ℕ) → next_of w s ≡ next.Idle → held_id w s ≡ None
none_held w s none = none_held_by w s (held_id w s) refl none
