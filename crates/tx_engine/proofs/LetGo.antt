-- How a call that is let go keeps what the running parts say of the history.
-- for: engine::breaks::let_go
use Rattle.std.proofs.Common.{◌≡◌, ℕ, ◌<◌, Bool, true, false, List, ◌∷◌, length, Option, Some, None, refl, sym, ◌∙◌, ap, subst, arith, get_or}
use Rattle.std.specs.Prelude.{slice_set, nat_le, not}
use Rattle.std.proofs.lemmas.Bool.Decides.{nat_tests}
use Rattle.sw_base.specs.Refusals.{or_else, refused_if}
use Rattle.flow_model.specs.declared.flow.Flow.{Flow}
use Rattle.tx_machine.specs.Contract.{tx_state}
use Rattle.tx_machine.specs.Due.{due_of, participant_of}
use Rattle.tx_history.specs.declared.event.Event.{Event}
use Rattle.tx_history.specs.declared.event.Event.TheVariants.{LetGo}
use Rattle.tx_history.specs.declared.event.Entry.{Entry}
use Rattle.tx_history.specs.History.{Start, serves, state_of, holds, is_held}
use Rattle.tx_history.specs.Journal.{no_change}
use Rattle.tx_slots.specs.declared.slot.Slot.{Slot}
use Rattle.tx_slots.specs.declared.slot.Slot.TheVariants.{Free, Holding}
use Rattle.tx_engine.specs.declared.error.EngineError.{EngineError}
use Rattle.tx_engine.specs.declared.error.EngineError.TheVariants.{NoSession, NotHeld}
use Rattle.tx_engine.specs.World.{World}
use Rattle.tx_engine.specs.Calls.{let_go_refusal, no_session, offer_refusal}
use Rattle.tx_slots.specs.Slots.{slot_held, slot_let_go}
use Rattle.tx_engine.specs.Kept.{AreBreaks, Kept, Running, SlotIs, past_of, world}
use Rattle.tx_engine.proofs.Keeps.{Steps, slot_keep, holds_is, hold_holds, state_served, set_slots, slot_there, same_yes, same_no}
use Rattle.tx_engine.proofs.Breaks.{none_of}
use Rattle.tx_engine.proofs.Dues.{flag_of_is}
use Rattle.tx_engine.proofs.Offers.{entry_room}

-- a slot tells whether the session's call is held
pub held_is : (f : Flow) (v : Start) (past : List Event) (breaks : List Bool) (s : ℕ) (x : Slot) → AreBreaks f v past breaks → SlotIs f v past s x →
    slot_held f breaks x ≡ is_held f v past s
held_is f v past breaks s Free are k = let no : holds f v past s ≡ None = holds_is f v past s ∙ k in rw no refl
held_is f v past breaks s (Holding h) are k =
    let yes : holds f v past s ≡ Some h.id = hold_holds f v past s h k in
    let st : state_of f v past h.id ≡ tx_state f h.machine = (state_served f v past (serves f v past s) h.id (tx_state f h.machine) k.serves).1 in
    rw (yes, st, k.gone, flag_of_is v past breaks are.1 (participant_of (due_of f (tx_state f h.machine)))) refl

slot_gone : (f : Flow) (v : Start) (past : List Event) (s : ℕ) (x : Slot) → SlotIs f v past s x → SlotIs f v (LetGo s ∷ past) s (slot_let_go x)
slot_gone f v past s Free k = k
slot_gone f v past s (Holding h) k = record { serves = k.serves; unfinished = k.unfinished; sound = k.sound; last = k.last; gone = rw (same_yes s) refl }

pub steps_let_go : (f : Flow) (n : ℕ) (v : Start) (es : List Entry) (mark reserved : ℕ) (r : Running) (s : ℕ) (x : Slot) →
    is_held f v (past_of es) s ≡ true → SlotIs f v (past_of es) s x → Kept (world f n v es mark reserved) es r
    → Steps f n v (past_of es) (LetGo s) no_change r (record r { slots = slice_set r.slots s (slot_let_go x) })
steps_let_go f n v es mark reserved r s x held here k = record {
  accepted = held;
  usual = refl;
  takers = λ h. h;
  spelled = λ h. h;
  change = refl;
  sessions = set_slots (λ t x. SlotIs f v (past_of es) t x) (λ t x. SlotIs f v (LetGo s ∷ past_of es) t x) r.slots s (slot_let_go x)
      (slot_gone f v (past_of es) s x here)
      (λ t x differ. slot_keep f v (past_of es) (LetGo s) t x refl (λ id z. refl) (rw (same_no s t differ) refl)) k.sessions;
  queued = k.queued;
  shelved = refl;
  advised = refl;
  stops = k.stops;
  numbered = k.numbered;
  renewed = k.renewed;
  recovers = k.recovers;
  spent = k.spent;
}

-- what a let-go that is not refused has
pub record CanLetGo (u : World) (es : List Entry) (s : ℕ) : Type 0 where
  pub there : s < u.sessions
  pub held : is_held u.flow u.start u.past s ≡ true
  pub few : length es < 1048576

held_if : (w : World) (s : ℕ) (b : Bool) → is_held w.flow w.start w.past s ≡ b → or_else (refused_if (not b) NotHeld) (or_else (offer_refusal w) None)
    ≡ None → (is_held w.flow w.start w.past s ≡ true) × (offer_refusal w ≡ None)
held_if w s true e h = (e, (none_of (offer_refusal w) None h).0)
held_if w s false e h = absurd (cc)

there_if : (w : World) (s : ℕ) (b : Bool) → nat_le w.sessions s ≡ b → refused_if b NoSession ≡ None → s < w.sessions
there_if w s true e h = absurd (cc)
there_if w s false e h = grind (arith, nat_tests)

pub can_let_go : (u w : World) (es : List Entry) (s : ℕ) → u ≡ w → u.past ≡ past_of es → let_go_refusal w s ≡ None → CanLetGo u es s
can_let_go u w es s same is none =
    let none' : let_go_refusal u s ≡ None = subst (λ (x : World). let_go_refusal x s ≡ None) (sym same) none in
    let parts = none_of (refused_if (no_session u s) NoSession) _ none' in
    let held = held_if u s (is_held u.flow u.start u.past s) refl parts.1 in
    record { there = there_if u s (nat_le u.sessions s) refl parts.0; held = held.0; few = entry_room u u es refl is held.1 }

-- which refusal it is, by the parts
pub let_go_refused : (w : World) (s : ℕ) (b : Bool) → s < w.sessions → is_held w.flow w.start w.past s ≡ b →
    let_go_refusal w s ≡ or_else (refused_if (not b) NotHeld) (or_else (offer_refusal w) None)
let_go_refused w s b lt e = let there : nat_le w.sessions s ≡ false = grind (arith, nat_tests) in rw (there, e) refl

pub or_none : {E : Type 0} (o : Option E) → or_else o None ≡ o
or_none None = refl
or_none (Some e) = refl

-- the refusal by the session's slot
pub let_go_tested : (u w : World) (es : List Entry) (r : Running) (s : ℕ) (x : Slot) (b : Bool) → Kept u es r → u ≡ w → u.sessions ≡ length r.slots →
    s < length r.slots → x ≡ get_or r.slots s x → slot_held u.flow r.breaks x ≡ b
    → let_go_refusal w s ≡ or_else (refused_if (not b) NotHeld) (offer_refusal w)
let_go_tested u w es r s x b k same n lt is held =
    let h : is_held u.flow u.start u.past s ≡ b = sym (held_is u.flow u.start u.past r.breaks s x k.stops
    (slot_there u.flow u.start u.past r.slots s x k.sessions lt is)) ∙ held in
    subst (λ (w : World). let_go_refusal w s ≡ or_else (refused_if (not b) NotHeld) (offer_refusal w)) same
    (let_go_refused u s b (omega arith) h ∙ ap (λ (o : Option EngineError). or_else (refused_if (not b) NotHeld) o) (or_none (offer_refusal u)))
