-- Every call of a journalled transaction is one of its outcome, or comes before it.
-- for: laws::restarts_decide
use Rattle.std.proofs.Common.{◌≡◌, ℕ, ◌<◌, ◌⊎◌, inl, inr, Bool, true, false, List, [], length, Option, Some, None, Result, Ok, Err, refl, sym, ◌∙◌, ap, subst}
use Rattle.std.proofs.Common.{arith}
use Rattle.std.specs.Prelude.{if◌then◌else◌, nat_lt, not, ◌&&◌}
use Rattle.std.specs.declared.alloc.AllocError.{AllocError}
use Rattle.std.proofs.lemmas.Bool.Decides.{nat_tests}
use Rattle.sw_participant.specs.declared.call.Act.TheVariants as act
use Rattle.sw_participant.specs.declared.call.Call.{Call}
use Rattle.sw_participant.specs.declared.call.Reply.{Reply}
use Rattle.flow_model.specs.declared.flow.Flow.{Flow}
use Rattle.tx_machine.specs.declared.values.Due.{Due}
use Rattle.tx_machine.specs.declared.values.Due.TheVariants as due
use Rattle.tx_machine.specs.declared.values.Phase.TheVariants.{Committing, Undoing}
use Rattle.tx_machine.specs.Due.{due_of}
use Rattle.tx_machine.specs.Table.{TxState}
use Rattle.tx_history.specs.declared.journal.JournalView.{JournalView}
use Rattle.tx_history.specs.Keys.{look}
use Rattle.tx_history.specs.History.{is_committing, is_restored, marked, outcome_of, own_items, recovers, reopened, restores, state_of}
use Rattle.tx_history.proofs.RisingKeys.{look_within}
use Rattle.tx_history.proofs.OwnItems.{old_stays, old_state}
use Rattle.tx_slots.specs.declared.next.Next.TheVariants as next
use Rattle.tx_engine.specs.World.{World}
use Rattle.tx_slots.specs.DueCalls.{call_with}
use Rattle.tx_engine.specs.Calls.{next_of}
use Rattle.tx_plant.specs.declared.seat.Seat.{Seat}
use Rattle.tx_plant.specs.declared.turn.Outcome.{Outcome}
use Rattle.tx_plant.specs.declared.turn.Outcome.TheVariants as outcome
use Rattle.tx_plant.specs.declared.turn.StepFault.{StepFault}
use Rattle.tx_plant.specs.declared.turn.PlantError.{PlantError}
use Rattle.tx_plant.specs.declared.turn.Turn.{Turn}
use Rattle.tx_plant.specs.declared.turn.Turn.TheVariants as turn
use Rattle.tx_plant.specs.Steps.{Asked, Moved, Serves, told_of}
use Rattle.tx_plant.specs.Core.{Core, Stepped}
use Rattle.tx_plant.specs.Turns.{Takes}
use Rattle.tx_plant.specs.Plant.{IsEngine, Stops, Turned, Whole}
use Rattle.outcome_plant.specs.Decided.{AreDecided, EndsBy, IsDecided}
use Rattle.tx_seats.proofs.DueCalls.{due_id, is_due}

-- the due call of a state whose outcome is decided

abbrev EndsDue : Bool → Due → Type 0
EndsDue commit (due.Commit p) = commit ≡ true
EndsDue commit (due.Abort p) = commit ≡ false
EndsDue commit due.Shelve = Unit {0}
EndsDue commit due.Done = Unit {0}
EndsDue commit _ = ⊥

act_is : (c call : Call) (commit : Bool) → Some c ≡ Some call → EndsBy commit c.act → EndsBy commit call.act
act_is c call commit e h = let same : c ≡ call = grind (arith, e) in subst (λ (k : Call). EndsBy commit k.act) same h

-- nothing is restored, or the context is before this outcome
abbrev Before : Flow → Due → Option (ℕ × Bool) → Type 0
Before f d o = (o ≡ None) ⊎ (o ≡ marked f (outcome_of d))

outcome_call : (f : Flow) (id : ℕ) (d : Due) (commit : Bool) (call : Call) → EndsDue commit d → call_with id true d None ≡ Some call → EndsBy commit call.act
outcome_call f id (due.Commit p) commit call h e = act_is (record { id = id; participant = p; act = act.Commit true }) call commit e (h, refl)
outcome_call f id (due.Abort p) commit call h e = act_is (record { id = id; participant = p; act = act.Abort true }) call commit e (h, refl)
outcome_call f id due.Shelve commit call h e = absurd (cc)
outcome_call f id due.Done commit call h e = absurd (cc)
outcome_call f id (due.Prepare p) commit call h e = absurd h
outcome_call f id (due.PrepareForAbort p) commit call h e = absurd h
outcome_call f id (due.Select p) commit call h e = absurd h

restored_call : (f : Flow) (id p : ℕ) (way commit mark : Bool) (d : Due) (call : Call) → EndsDue commit d → way ≡ commit →
    call_with id true d (if mark then Some (p, way) else None) ≡ Some call → EndsBy commit call.act
restored_call f id p way commit true d call h w e = act_is (record { id = id; participant = p; act = act.Recover way }) call commit e w
restored_call f id p way commit false d call h w e = outcome_call f id d commit call h e

marked_call : (f : Flow) (id : ℕ) (d : Due) (commit : Bool) (call : Call) → EndsDue commit d → call_with id true d (marked f (outcome_of d)) ≡ Some call →
    EndsBy commit call.act
marked_call f id (due.Commit p) commit call h e = restored_call f id p true commit (recovers f p) (due.Commit p) call h (sym h) e
marked_call f id (due.Abort p) commit call h e = restored_call f id p false commit (recovers f p) (due.Abort p) call h (sym h) e
marked_call f id due.Shelve commit call h e = absurd (cc)
marked_call f id due.Done commit call h e = absurd (cc)
marked_call f id (due.Prepare p) commit call h e = absurd h
marked_call f id (due.PrepareForAbort p) commit call h e = absurd h
marked_call f id (due.Select p) commit call h e = absurd h

either_call : (f : Flow) (id : ℕ) (d : Due) (o : Option (ℕ × Bool)) (commit : Bool) (call : Call) → EndsDue commit d → Before f d o →
    call_with id true d o ≡ Some call → EndsBy commit call.act
either_call f id d o commit call h (inl none) e = outcome_call f id d commit call h (sym (ap (call_with id true d) none) ∙ e)
either_call f id d o commit call h (inr some) e = marked_call f id d commit call h (sym (ap (call_with id true d) some) ∙ e)

-- the state of a journalled transaction

end_is : (commit b : Bool) → EndsDue commit (if b then due.Shelve else due.Done)
end_is commit true = tt
end_is commit false = tt

ends_due : (f : Flow) (s : TxState) (commit b : Bool) → nat_lt s.told (length s.joined) ≡ b → s.phase ≡ (if commit then Committing else Undoing) →
    EndsDue commit (due_of f s)
ends_due f s true true e p = rw (p, e) refl
ends_due f s true false e p = rw (p, e) tt
ends_due f s false true e p = rw (p, e) refl
ends_due f s false false e p = rw (p, e) (end_is false (s.retry && nat_lt 0 s.tries))

before_by : (f : Flow) (d : Due) (old restored : Bool) → Before f d (if old && not restored then marked f (outcome_of d) else None)
before_by f d true true = inl refl
before_by f d true false = inr refl
before_by f d false restored = inl refl

decided : (w : World) (s : ℕ) (call : Call) → IsEngine w → next_of w s ≡ next.Due call → IsDecided w.start.view call
decided w s call engine h r there =
    let k = is_due w s call h in
    let id : call.id ≡ k.id = due_id w k.id call k.call_is in
    let row : look k.id w.start.view.rows ≡ Some r = sym (ap (λ (i : ℕ). look i w.start.view.rows) id) ∙ there in
    let low : k.id < w.start.view.next_id = (look_within w.start.view.rows 1 w.start.view.next_id k.id r engine.start.view.ordered.rows row).1 in
    let old : nat_lt k.id w.start.view.next_id ≡ true = grind (arith, nat_tests) in
    let st : TxState = state_of w.flow w.start w.past k.id in
    let is = old_state w.flow w.start w.past k.id r old row in
    let stays = old_stays w.flow (reopened w.flow r) (own_items w.flow w.start w.past k.id) refl refl in
    let phase : (state_of w.flow w.start w.past k.id).phase ≡ (if is_committing r.phase then Committing else Undoing) =
    ap (λ (t : TxState). t.phase) is ∙ stays.phase in
    let ends = ends_due w.flow (state_of w.flow w.start w.past k.id) (is_committing r.phase) (nat_lt st.told (length st.joined)) refl phase in
    let made : call_with k.id true (due_of w.flow (state_of w.flow w.start w.past k.id)) (restores w.flow w.start w.past k.id) ≡ Some call =
    sym (ap (λ (b : Bool). call_with k.id b (due_of w.flow (state_of w.flow w.start w.past k.id)) (restores w.flow w.start w.past k.id)) old) ∙ k.call_is in
    either_call w.flow k.id (due_of w.flow (state_of w.flow w.start w.past k.id)) (restores w.flow w.start w.past k.id) (is_committing r.phase) call ends
    (before_by w.flow (due_of w.flow (state_of w.flow w.start w.past k.id)) (nat_lt k.id w.start.view.next_id) (is_restored w.past)) made

-- a turn

none_decided : (v : JournalView) (m : List Moved) → m ≡ [] → AreDecided v m
none_decided v m e = subst (AreDecided v) (sym e) tt

asked_decided : (w : World) (s : ℕ) (l c : Seat) (m : List Moved) (r : Reply) → IsEngine w → Asked (next_of w s) (told_of w l.id) l c m r →
    AreDecided w.start.view m
asked_decided w s l c m r engine (kept, inl rests) = none_decided w.start.view m rests.1
asked_decided w s l c m r engine (kept, inr k) = subst (AreDecided w.start.view) (sym k.is) (decided w s k.call engine k.due, tt)

serves_decided : (w : World) (s : ℕ) (l t : Seat) (m : List Moved) (r : Result Outcome StepFault) (to : World) → IsEngine w → Serves w s l t m r to →
    AreDecided w.start.view m
serves_decided w s l t m (Ok (outcome.Accepted n)) to engine (c, q, asked, after, recorded) = asked_decided w s l c m q engine asked
serves_decided w s l t m (Ok (outcome.Refused e)) to engine (inl k) = none_decided w.start.view m k.2.1
serves_decided w s l t m (Ok (outcome.Refused e)) to engine (inr (q, refused, (asked, same))) = asked_decided w s l t m q engine asked
serves_decided w s l t m (Ok outcome.Idle) to engine k = none_decided w.start.view m k.2.1
serves_decided w s l t m (Ok outcome.Unwritten) to engine k = none_decided w.start.view m k.2.1
serves_decided w s l t m (Ok (outcome.Held c)) to engine k = none_decided w.start.view m k.2.1
serves_decided w s l t m (Ok (outcome.Written n)) to engine k = none_decided w.start.view m k.2.1
serves_decided w s l t m (Ok (outcome.Restarted n)) to engine k = none_decided w.start.view m k.2.1
serves_decided w s l t m (Ok (outcome.Cut n)) to engine k = none_decided w.start.view m k.2.1
serves_decided w s l t m (Err e) to engine (inl k) = none_decided w.start.view m k.0.1
serves_decided w s l t m (Err e) to engine (inr (q, (asked, same))) = asked_decided w s l t m q engine asked

stepped_decided : (p q : Core) (s : ℕ) (m : List Moved) (r : Result Outcome StepFault) → IsEngine p.world → Stepped p s m r q
    → AreDecided p.world.start.view m
stepped_decided p q s m r engine (inl k) = none_decided p.world.start.view m k.0.0
stepped_decided p q s m r engine (inr k) = serves_decided p.world s k.before k.after m r q.world engine k.serves

takes_decided : (v : JournalView) (p q : Core) (s : ℕ) (m : List Moved) (r : Result Outcome AllocError) → Takes p s m r q → AreDecided v m
takes_decided v p q s m (Ok (outcome.Accepted n)) k = subst (AreDecided v) (sym k.began) tt
takes_decided v p q s m (Ok (outcome.Refused e)) k = none_decided v m k.1.0
takes_decided v p q s m (Err x) k = none_decided v m k.0
takes_decided v p q s m (Ok outcome.Idle) k = absurd k
takes_decided v p q s m (Ok outcome.Unwritten) k = absurd k
takes_decided v p q s m (Ok (outcome.Held c)) k = absurd k
takes_decided v p q s m (Ok (outcome.Written n)) k = absurd k
takes_decided v p q s m (Ok (outcome.Restarted n)) k = absurd k
takes_decided v p q s m (Ok (outcome.Cut n)) k = absurd k

stops_decided : (v : JournalView) (p q : Whole) (m : List Moved) (r : Result Outcome PlantError) → Stops m p r q → AreDecided v m
stops_decided v p q m (Ok (outcome.Restarted u)) k = subst (AreDecided v) (sym k.1) tt
stops_decided v p q m (Ok (outcome.Refused e)) k = none_decided v m k.0.0
stops_decided v p q m (Err e) k = none_decided v m k.0.0
stops_decided v p q m (Ok (outcome.Accepted n)) k = absurd k
stops_decided v p q m (Ok outcome.Idle) k = absurd k
stops_decided v p q m (Ok outcome.Unwritten) k = absurd k
stops_decided v p q m (Ok (outcome.Held c)) k = absurd k
stops_decided v p q m (Ok (outcome.Written n)) k = absurd k
stops_decided v p q m (Ok (outcome.Cut n)) k = absurd k

pub turn_decided : (t : Turn) (r : Result Outcome PlantError) (m : List Moved) (p q : Whole) → IsEngine p.core.world → Turned t r m p q →
    AreDecided p.core.world.start.view m
turn_decided (turn.Take s) r m p q engine k = takes_decided p.core.world.start.view p.core q.core s m k.0 k.2
turn_decided (turn.Step s) r m p q engine k = stepped_decided p.core q.core s m k.0 engine k.2
turn_decided (turn.Write most) r m p q engine k = none_decided p.core.world.start.view m k.0
turn_decided turn.Stop r m p q engine k = stops_decided p.core.world.start.view p q m r k
turn_decided turn.Cut r m p q engine k = none_decided p.core.world.start.view m k.0
turn_decided (turn.Offer x) r m p q engine k = none_decided p.core.world.start.view m k.0
turn_decided turn.Release r m p q engine k = none_decided p.core.world.start.view m k.0
turn_decided (turn.Ack id place) r m p q engine k = none_decided p.core.world.start.view m k.0
turn_decided (turn.Break name) r m p q engine k = none_decided p.core.world.start.view m k.0
turn_decided (turn.Clear name) r m p q engine k = none_decided p.core.world.start.view m k.0
turn_decided (turn.LetGo s) r m p q engine k = none_decided p.core.world.start.view m k.0
