-- What an engine answers of the transaction that a session holds.
-- for: engine::Engine::saved, engine::Engine::at
use Rattle.std.proofs.Common.{◌≡◌, ℕ, ◌<◌, Bool, false, Option, Some, None, Ok, refl, ◌∙◌, subst, arith}
use Rattle.std.specs.Prelude.{nat_le, option_map, ⊤}
use Rattle.std.proofs.lemmas.Bool.Decides.{nat_tests}
use Rattle.sw_base.specs.Refusals.{Accepts}
use Rattle.sw_context.specs.declared.context.Context.{Context}
use Rattle.sw_context.specs.Spelling.{bytes_of}
use Rattle.tx_machine.specs.Contract.{tx_state}
use Rattle.tx_history.specs.History.{holds, is_restored, serves, state_of}
use Rattle.tx_engine.specs.declared.error.EngineError.TheVariants.{OutOfMemory}
use Rattle.tx_slots.specs.declared.next.At.{At}
use Rattle.tx_slots.specs.declared.slot.Hold.{Hold}
use Rattle.tx_slots.specs.declared.slot.Slot.{Slot}
use Rattle.tx_slots.specs.declared.slot.Slot.TheVariants.{Free, Holding}
use Rattle.tx_engine.specs.World.{World}
use Rattle.tx_engine.specs.Calls.{at_in, at_of, held_id, next_refusal, saved_of}
use Rattle.tx_slots.specs.Slots.{slot_at}
use Rattle.tx_engine.specs.Kept.{HoldIs, SlotIs}
use Rattle.tx_engine.proofs.Keeps.{hold_holds, holds_is, state_served}

pub at_slot_is : (w : World) (restored : Bool) (s : ℕ) (x : Slot) → restored ≡ is_restored w.past → SlotIs w.flow w.start w.past s x →
    slot_at w.flow w.start.view.next_id restored x ≡ at_in w (held_id w s)
at_slot_is w restored s Free r k = let none : holds w.flow w.start w.past s ≡ None = holds_is w.flow w.start w.past s ∙ k in rw none refl
at_slot_is w restored s (Holding h) r k =
    let some : holds w.flow w.start w.past s ≡ Some h.id = hold_holds w.flow w.start w.past s h k in
    let st : state_of w.flow w.start w.past h.id ≡ tx_state w.flow h.machine =
    (state_served w.flow w.start w.past (serves w.flow w.start w.past s) h.id (tx_state w.flow h.machine) k.serves).1 in
    rw (some, st, r) refl

pub at_there : (u w : World) (s : ℕ) (r : Option At) → u ≡ w → s < u.sessions → r ≡ at_in u (held_id u s) → r ≡ at_of w s
at_there u w s r same lt is =
    let there : nat_le u.sessions s ≡ false = grind (arith, nat_tests) in
    subst (λ (z : World). r ≡ at_of z s) same (rw there is)

abbrev pub IsSaved : World → ℕ → Option (ℕ × Context) → Type 0
IsSaved w s saved = option_map (λ (held : ℕ × Context). (held.0, bytes_of held.1)) saved ≡ saved_of w s

pub saved_none : (u w : World) (s : ℕ) → u ≡ w → s < u.sessions → SlotIs u.flow u.start u.past s Free →
    Accepts OutOfMemory (next_refusal w s) (Ok None) (IsSaved w s) ⊤
saved_none u w s same lt k =
    let there : nat_le u.sessions s ≡ false = grind (arith, nat_tests) in
    let none : holds u.flow u.start u.past s ≡ None = holds_is u.flow u.start u.past s ∙ k in
    subst (λ (z : World). Accepts OutOfMemory (next_refusal z s) (Ok None) (IsSaved z s) ⊤) same (rw (there, none) refl)

pub saved_some : (u w : World) (s : ℕ) (h : Hold) (context : Context) → u ≡ w → s < u.sessions → HoldIs u.flow u.start u.past s h →
    bytes_of context ≡ (tx_state u.flow h.machine).saved
    → Accepts OutOfMemory (next_refusal w s) (Ok (Some (h.id, context))) (IsSaved w s) ⊤
saved_some u w s h context same lt k is =
    let there : nat_le u.sessions s ≡ false = grind (arith, nat_tests) in
    let some : holds u.flow u.start u.past s ≡ Some h.id = hold_holds u.flow u.start u.past s h k in
    let st : state_of u.flow u.start u.past h.id ≡ tx_state u.flow h.machine =
    (state_served u.flow u.start u.past (serves u.flow u.start u.past s) h.id (tx_state u.flow h.machine) k.serves).1 in
    subst (λ (z : World). Accepts OutOfMemory (next_refusal z s) (Ok (Some (h.id, context))) (IsSaved z s) ⊤) same (rw (there, some, st, is) refl)

pub may_save : (u w : World) (s : ℕ) → u ≡ w → s < u.sessions → next_refusal w s ≡ None
may_save u w s same lt =
    let there : nat_le u.sessions s ≡ false = grind (arith, nat_tests) in
    subst (λ (z : World). next_refusal z s ≡ None) same (rw there refl)
