-- The call that is due in a session.
-- for: laws::seats_are_held
use Rattle.std.proofs.Common.{◌≡◌, ℕ, Bool, true, false, Option, Some, None, refl, sym, ap, arith}
use Rattle.std.specs.Prelude.{nat_lt}
use Rattle.sw_participant.specs.declared.call.Act.{Act}
use Rattle.sw_participant.specs.declared.call.Act.TheVariants as act
use Rattle.sw_participant.specs.declared.call.Call.{Call}
use Rattle.tx_machine.specs.declared.values.Due.{Due}
use Rattle.tx_machine.specs.Due.{act_of, call_by, due_of, participant_of}
use Rattle.tx_history.specs.History.{is_held_at, restores, state_of}
use Rattle.tx_slots.specs.declared.next.Next.TheVariants as next
use Rattle.tx_engine.specs.World.{World}
use Rattle.tx_slots.specs.DueCalls.{call_with, next_by}
use Rattle.tx_engine.specs.Calls.{due_call, held_id, is_unwritten, next_in, next_of}

pub record IsDue (w : World) (s : ℕ) (call : Call) : Type 0 where
  pub id : ℕ
  pub held : held_id w s ≡ Some id
  pub written : is_unwritten w id ≡ false
  pub call_is : due_call w id ≡ Some call

same_call : (c d : Call) → next.Due c ≡ next.Due d → c ≡ d
same_call c d e = grind (arith, e)

due_by : (u h : Bool) (o : Option Call) (call : Call) → next_by u h o ≡ next.Due call → (u ≡ false) × (o ≡ Some call)
due_by true h None call e = absurd (grind (arith, e))
due_by false h None call e = absurd (grind (arith, e))
due_by true h (Some c) call e = absurd (grind (arith, e))
due_by false true (Some c) call e = absurd (grind (arith, e))
due_by false false (Some c) call e = (refl, ap Some (same_call c call e))

due_in : (w : World) (s : ℕ) (o : Option ℕ) (call : Call) → held_id w s ≡ o → next_in w s o ≡ next.Due call → IsDue w s call
due_in w s None call e h = absurd (grind (arith, h))
due_in w s (Some id) call e h = let k = due_by (is_unwritten w id) (is_held_at w.flow w.start w.past s (Some id)) (due_call w id) call h in
    record { id = id; held = e; written = k.0; call_is = k.1 }

pub is_due : (w : World) (s : ℕ) (call : Call) → next_of w s ≡ next.Due call → IsDue w s call
is_due w s call h = due_in w s (held_id w s) call refl h

by_id : (id : ℕ) (p : Option ℕ) (a : Option Act) (call : Call) → call_by id p a ≡ Some call → call.id ≡ id
by_id id None a call e = absurd (grind (arith, e))
by_id id (Some p) None call e = absurd (grind (arith, e))
by_id id (Some p) (Some a) call e = let same : record { id = id; participant = p; act = a } ≡ call = grind (arith, e) in sym (ap (λ (c : Call). c.id) same)

with_id : (id : ℕ) (recovering : Bool) (d : Due) (o : Option (ℕ × Bool)) (call : Call) → call_with id recovering d o ≡ Some call → call.id ≡ id
with_id id recovering d (Some r) call e = let same : record { id = id; participant = r.0; act = act.Recover r.1 } ≡ call = grind (arith, e) in
    sym (ap (λ (c : Call). c.id) same)
with_id id recovering d None call e = by_id id (participant_of d) (act_of recovering d) call e

pub due_id : (w : World) (id : ℕ) (call : Call) → due_call w id ≡ Some call → call.id ≡ id
due_id w id call e = with_id id (nat_lt id w.start.view.next_id) (due_of w.flow (state_of w.flow w.start w.past id)) (restores w.flow w.start w.past id) call e
