-- How a take keeps what the running parts say of the history.
-- for: engine::Engine::take
use Rattle.std.proofs.Common.{◌≡◌, ◌≢◌, ℕ, ◌+◌, ◌-◌, ◌<◌, Bool, true, false, List, [], ◌∷◌, length, Option, Some, None, refl, sym, ◌∙◌, ap, subst, arith, drop}
use Rattle.std.proofs.Common.{get_or, add-one}
use Rattle.std.specs.Prelude.{if◌then◌else◌, slice_get, slice_set, ◌==◌, nat_lt, nat_le, is_some, suc, zero, IsSome}
use Rattle.std.proofs.lemmas.Bool.Decides.{nat_tests}
use Rattle.std.proofs.lemmas.Option.{slice_get_within}
use Rattle.sw_base.specs.Refusals.{refused_if, first_of}
use Rattle.flow_model.specs.declared.flow.Flow.{Flow}
use Rattle.tx_machine.specs.declared.machine.Machine.{Machine}
use Rattle.tx_machine.specs.Contract.{IsSound, tx_state}
use Rattle.tx_machine.specs.Table.{opening}
use Rattle.tx_history.specs.declared.event.Event.{Event}
use Rattle.tx_history.specs.declared.event.Event.TheVariants.{Taken}
use Rattle.tx_history.specs.declared.event.Entry.{Entry}
use Rattle.tx_history.specs.declared.journal.WaitingContext.{WaitingContext}
use Rattle.tx_history.specs.History.{Start, takes, next_id, taken, own_items, or_taken, arrivals, queue, serves, recovering, state_of, holds, last_of}
use Rattle.tx_history.specs.History.{is_let_go}
use Rattle.tx_history.specs.Journal.{row}
use Rattle.tx_history.specs.Views.{IsOrdered}
use Rattle.tx_history.specs.Held.{session_state, state_of_served}
use Rattle.tx_history.proofs.OwnItems.{serves_below}
use Rattle.tx_history.proofs.RisingKeys.{get_drop}
use Rattle.tx_history.proofs.SoundJournals.{own_none}
use Rattle.tx_history.proofs.SessionStates.{held_taken}
use Rattle.tx_engine.specs.declared.error.EngineError.TheVariants.{Busy, Empty, Recovering, IdsSpent, NoSession, HistoryFull}
use Rattle.tx_slots.specs.declared.slot.Slot.{Slot}
use Rattle.tx_slots.specs.declared.slot.Slot.TheVariants.{Free, Holding}
use Rattle.tx_engine.specs.World.{World}
use Rattle.tx_engine.specs.Calls.{is_full, no_session, waits, take_refusal, IsFirst}
use Rattle.tx_slots.specs.Slots.{slot_of, is_holding}
use Rattle.tx_engine.specs.Kept.{Kept, Running, SlotIs, past_of, world}
use Rattle.tx_engine.proofs.Keeps.{Steps, slot_keep, slot_made, set_slots, slot_there, state_served, holds_is, hold_holds, length_past, same_yes, same_no}

drop_one_more : {A : Type 0} (n : ℕ) (xs : List A) → drop 1 (drop n xs) ≡ drop (suc n) xs
drop_one_more zero xs = refl
drop_one_more (suc n) [] = refl
drop_one_more (suc n) (x ∷ xs) = drop_one_more n xs

serves_new : (b : Bool) (r t : Option ℕ) (id : ℕ) → r ≡ None → t ≡ Some id → (if b then or_taken r t else t) ≡ Some id
serves_new true None t id z h = h
serves_new true (Some k) t id z h = absurd (cc)
serves_new false r t id z h = h

taken_self : (v : Start) (past : List Event) (s : ℕ) → taken v (Taken s ∷ past) s ≡ Some (next_id v past)
taken_self v past s = rw (same_yes s) refl

state_new : (f : Flow) (v : Start) (past : List Event) (s : ℕ) (w : WaitingContext) → IsOrdered v.view → recovering f v past ≡ None →
    slice_get (arrivals f v past) (takes past) ≡ Some w
    → session_state f v (Taken s ∷ past) s ≡ Some (next_id v past, opening f w.tries w.context)
state_new f v past s w o none there =
    let who : serves f v (Taken s ∷ past) s ≡ Some (next_id v past) = serves_new (s == 0) (recovering f v (Taken s ∷ past)) (taken v (Taken s ∷ past) s)
    (next_id v past) none (taken_self v past s) in
    let no : nat_lt (next_id v past) v.view.next_id ≡ false = grind (arith, nat_tests) in
    let at : next_id v past - v.view.next_id ≡ takes past = omega arith in
    let own_is : own_items f v past (next_id v past) ≡ [] = own_none f v past (next_id v past) o (omega arith) in
    ap (state_of_served f v (Taken s ∷ past)) who ∙ (rw (no, at, there, own_is) refl)

-- what an allowed take knows
pub record CanTake (f : Flow) (n : ℕ) (v : Start) (es : List Entry) (s : ℕ) (w : WaitingContext) : Type 0 where
  pub session : s < n
  pub none : recovering f v (past_of es) ≡ None
  pub free : holds f v (past_of es) s ≡ None
  pub first : slice_get (queue f v (past_of es)) 0 ≡ Some w
  pub more : next_id v (past_of es) ≢ 9223372036854775807
  pub few : length es < 1048576

pub steps_taken : (f : Flow) (n : ℕ) (v : Start) (es : List Entry) (mark reserved : ℕ) (r : Running) (s number : ℕ) (w : WaitingContext) (m : Machine) (y : Slot) →
    Kept (world f n v es mark reserved) es r → CanTake f n v es s w
    → number ≡ length es + 1 → IsSound f m → tx_state f m ≡ opening f w.tries w.context → y ≡ slot_of f m r.next_id number
    → Steps f n v (past_of es) (Taken s) (record {
      next_id = Some (r.next_id + 1);
      row = Some (r.next_id, row f (tx_state f m));
      shelved = None;
      emptied =
          false;
      advice = None;
    }) r
    (record r { slots = slice_set r.slots s y; queue = drop 1 r.queue; next_id = r.next_id + 1 })
steps_taken f n v es mark reserved r s number w m y k can is sound begins put =
    let past : List Event = past_of es in
    let len : length past ≡ length es = length_past es in
    let o : IsOrdered v.view = k.start.view.ordered in
    let nid : r.next_id ≡ next_id v past = k.numbered in
    let sp = k.spent in
    let more = can.more in
    let first : slice_get (arrivals f v past) (takes past) ≡ Some w = sym (get_drop (takes past) (arrivals f v past)) ∙ can.first in
    let new = state_new f v past s w o can.none first in
    let new_m : session_state f v (Taken s ∷ past) s ≡ Some (r.next_id, tx_state f m) = rw (begins, nid) new in
    let stood : state_of f v (Taken s ∷ past) (next_id v past) ≡ tx_state f m =
    (state_served f v (Taken s ∷ past) (serves f v (Taken s ∷ past) s) (next_id v past) (opening f w.tries w.context) new).1 ∙ sym begins in
    let self : (next_id v past == next_id v past) ≡ true = same_yes (next_id v past) in
    let last : number ≡ last_of f v (Taken s ∷ past) r.next_id = rw (nid, self) (omega arith) in
    let let_go : is_let_go (Taken s ∷ past) s ≡ false = rw (same_yes s) refl in
    record {
      accepted = (can.none, can.free, slice_get_within (arrivals f v past) (takes past) w first, omega arith);
      usual = refl;
      takers = λ h. (can.session, h);
      spelled = λ h. h;
      change = rw (stood, nid) refl;
      sessions = set_slots (SlotIs f v past) (SlotIs f v (Taken s ∷ past)) r.slots s y
          (rw put (slot_made f v (Taken s ∷ past) s m r.next_id number new_m sound last let_go))
          (λ t x d h. slot_keep f v past (Taken s) t x (held_taken f v past s t d) (λ id z. let b = (serves_below f v past t id o z).1 in
          rw (same_no (next_id v past) id (omega arith)) refl) (rw (same_no s t d) refl) h)
          k.sessions;
      queued = rw (k.queued, add-one) (drop_one_more (takes past) (arrivals f v past));
      shelved = refl;
      advised = refl;
      stops = k.stops;
      numbered = omega arith;
      renewed = k.renewed;
      recovers = k.recovers;
      spent = omega arith;
    }

-- refusals

holding_if : (f : Flow) (v : Start) (past : List Event) (s : ℕ) (x : Slot) → SlotIs f v past s x → is_holding x ≡ is_some (holds f v past s)
holding_if f v past s Free k = let no : holds f v past s ≡ None = holds_is f v past s ∙ k in rw no refl
holding_if f v past s (Holding h) k = rw (hold_holds f v past s h k) refl

-- the refusals of a take, by the running parts
pub take_refused : (u w : World) (es : List Entry) (r : Running) (s : ℕ) (x : Slot) → Kept u es r → u ≡ w → u.sessions ≡ length r.slots →
    u.past ≡ past_of es → s < length r.slots → x ≡ get_or r.slots s x
    → take_refusal w s ≡ first_of (refused_if r.recovering Recovering ∷ refused_if (is_holding x) Busy ∷ refused_if (length r.queue == 0) Empty ∷ refused_if
    (r.next_id == 9223372036854775807) IdsSpent ∷ refused_if (is_full w) HistoryFull ∷ [])
take_refused u w es r s x k same n past lt is =
    let P : World → Type 0 = λ w. take_refusal w s
    ≡ first_of (refused_if r.recovering Recovering ∷ refused_if (is_holding x) Busy ∷ refused_if (length r.queue == 0) Empty ∷ refused_if
    (r.next_id == 9223372036854775807) IdsSpent ∷ refused_if (is_full w) HistoryFull ∷ []) in
    let holding : is_holding x ≡ is_some (holds u.flow u.start u.past s) =
    holding_if u.flow u.start u.past s x (slot_there u.flow u.start u.past r.slots s x k.sessions lt is) in
    let there : nat_le u.sessions s ≡ false = grind (arith, nat_tests) in
    subst P same (rw (holding, k.recovers, k.queued, k.numbered, there) refl)

none_of : {A : Type 0} (o : Option A) → is_some o ≡ false → o ≡ None
none_of None h = refl
none_of (Some x) h = absurd (cc)

record AllFalse (a b c d e g : Bool) : Type 0 where
  one : a ≡ false
  two : b ≡ false
  three : c ≡ false
  five : e ≡ false
  six : g ≡ false

all_false : (a b c d e g : Bool) → first_of (refused_if a NoSession ∷ refused_if b Recovering ∷ refused_if c Busy ∷ refused_if d Empty ∷ refused_if e
    IdsSpent ∷ refused_if g HistoryFull ∷ []) ≡ None → AllFalse a b c d e g
all_false false false false false false false h = record { one = refl; two = refl; three = refl; five = refl; six = refl }
all_false true b c d e g h = absurd (cc)
all_false false true c d e g h = absurd (cc)
all_false false false true d e g h = absurd (cc)
all_false false false false true e g h = absurd (cc)
all_false false false false false true g h = absurd (cc)
all_false false false false false false true h = absurd (cc)

pub can_take : (f : Flow) (n : ℕ) (v : Start) (es : List Entry) (mark reserved : ℕ) (w : World) (s : ℕ) (x : WaitingContext) → world f n v es mark reserved ≡ w →
    IsFirst w s x → CanTake f n v es s x
can_take f n v es mark reserved w s x same h =
    let u : World = world f n v es mark reserved in
    let i : IsFirst u s x = subst (λ (z : World). IsFirst z s x) (sym same) h in
    let len : length (past_of es) ≡ length es = length_past es in
    let all = all_false (no_session u s) (is_some (recovering f v (past_of es))) (is_some (holds f v (past_of es) s)) (length (queue f v (past_of es)) == 0)
    (next_id v (past_of es) == 9223372036854775807) (nat_le 1048576 (length (past_of es))) i.allowed in
    let a = all.one in
    let e = all.five in
    let g = all.six in
    record {
      session = grind (arith, nat_tests);
      none = none_of _ all.two;
      free = none_of _ all.three;
      first = i.first_is;
      more = grind (arith, nat_tests);
      few = grind (arith, nat_tests);
    }

pub queue_first : (u w : World) (es : List Entry) (r : Running) (x : WaitingContext) → Kept u es r → u ≡ w → slice_get r.queue 0 ≡ Some x →
    slice_get (waits w) 0 ≡ Some x
queue_first u w es r x k same g = subst (λ (z : World). slice_get (waits z) 0 ≡ Some x) same (rw (← k.queued) g)

pub empty_queue : {A : Type 0} (o : Option A) (n m : ℕ) → o ≡ None → n ≡ m → (0 < n → IsSome o) → (m == 0) ≡ true
empty_queue o zero m e same h = rw (← same) refl
empty_queue o (suc n) m e same h = absurd (let i = rw e at (h (omega arith)) in cc)

pub there_queue : {A : Type 0} (o : Option A) (x : A) (n m : ℕ) → o ≡ Some x → n ≡ m → (IsSome o → 0 < n) → (m == 0) ≡ false
there_queue o x n m e same h = let i : 0 < n = h (rw e refl) in grind (arith, nat_tests)
