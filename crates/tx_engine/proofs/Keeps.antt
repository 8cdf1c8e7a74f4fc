-- How an accepted event keeps what the running parts say of the history.
-- for: engine::Engine
use Rattle.std.proofs.Common.{◌≡◌, ◌≢◌, ℕ, ◌+◌, ◌<◌, ◌≤◌, Bool, true, false, List, [], ◌∷◌, ◌++◌, length, Option, Some, None, refl, sym, ◌∙◌, ap, subst, arith}
use Rattle.std.proofs.Common.{get_or}
use Rattle.std.specs.Prelude.{if◌then◌else◌, slice_get, slice_set, ◌==◌, is_some, suc, zero}
use Rattle.std.proofs.lemmas.Bool.Decides.{nat_tests}
use Rattle.std.proofs.lemmas.Grind.{common_steps}
use Rattle.std.proofs.lemmas.List.{reverse-append, map-append}
use Rattle.std.proofs.lemmas.Option.{slice_get_read}
use Rattle.flow_model.specs.declared.flow.Flow.{Flow}
use Rattle.tx_machine.specs.declared.machine.Machine.{Machine}
use Rattle.tx_machine.specs.Contract.{IsSound, tx_state}
use Rattle.tx_machine.specs.Table.{TxState}
use Rattle.tx_history.specs.declared.event.Event.{Event}
use Rattle.tx_history.specs.declared.event.Change.{Change}
use Rattle.tx_history.specs.declared.event.Entry.{Entry}
use Rattle.tx_history.specs.declared.journal.JournalView.{JournalView}
use Rattle.tx_history.specs.Keys.{put_new, put_place}
use Rattle.tx_history.specs.History.{Start, is_ended, next_id, queue, serves, recovering, state_of, holds, held_of, last_of, is_let_go, is_restored}
use Rattle.tx_history.specs.Journal.{IsLawful, IsAccepted, to_close, closes, change}
use Rattle.tx_history.specs.Views.{AreSessions, AreSpelled}
use Rattle.tx_history.specs.Held.{session_state, state_of_served}
use Rattle.tx_history.proofs.Changes.{leads}
use Rattle.tx_slots.specs.declared.slot.Slot.{Slot}
use Rattle.tx_slots.specs.declared.slot.Slot.TheVariants.{Free, Holding}
use Rattle.tx_slots.specs.declared.slot.Hold.{Hold}
use Rattle.tx_slots.specs.Slots.{IsSoundSlot, slot_of}
use Rattle.tx_engine.specs.Kept.{Kept, Running, HoldIs, SlotIs, going_on, AreBreaks, past_of, world}

pub past_snoc : (es : List Entry) (e : Entry) → past_of (es ++ e ∷ []) ≡ e.event ∷ past_of es
past_snoc es e = rw (map-append (λ (i : Entry). i.event) es (e ∷ []), reverse-append) refl

pub length_past : (es : List Entry) → length (past_of es) ≡ length es
length_past es = grind (arith, common_steps)

-- what an accepted event leaves the running parts with
pub record Steps (f : Flow) (n : ℕ) (v : Start) (past : List Event) (e : Event) (ch : Change) (r to : Running) : Type 0 where
  pub accepted : IsAccepted f v past e
  pub usual : closes e ≡ false
  pub takers : AreSessions n past → AreSessions n (e ∷ past)
  pub spelled : AreSpelled past → AreSpelled (e ∷ past)
  pub change : ch ≡ change f v (e ∷ past)
  pub sessions : (s : ℕ) (x : Slot) → slice_get to.slots s ≡ Some x → SlotIs f v (e ∷ past) s x
  pub queued : to.queue ≡ queue f v (e ∷ past)
  pub shelved : to.shelf ≡ put_new ch.shelved (if ch.emptied then [] else r.shelf)
  pub advised : to.advices ≡ put_place ch.advice r.advices
  pub stops : AreBreaks f v (e ∷ past) to.breaks
  pub numbered : to.next_id ≡ next_id v (e ∷ past)
  pub renewed : to.restored ≡ is_restored (e ∷ past)
  pub recovers : to.recovering ≡ is_some (recovering f v (e ∷ past))
  pub spent : to.next_id ≤ 9223372036854775807

pub in_turn : (f : Flow) (v : Start) (past : List Event) (e : Event) → IsAccepted f v past e → closes e ≡ false →
    length (to_close f v.view.rows) ≤ length past → length past < 1048576 → IsLawful f v past → IsLawful f v (e ∷ past)
in_turn f v past e a usual closed few law = rw usual (a, (closed, few), law)

pub kept_step : (f : Flow) (n m : ℕ) (v : Start) (es : List Entry) (mark reserved : ℕ) (r : Running) (e : Event) (number : ℕ) (ch : Change) (to : Running)
    → Kept (world f n v es mark reserved) es r → length es < 1048576 → number ≡ length es + 1 → m ≡ n → Steps f n v (past_of es) e ch r to
    → Kept (world f m v (es ++ record { number = number; event = e; change = ch } ∷ []) mark reserved)
    (es ++ record { number = number; event = e; change = ch } ∷ []) to
kept_step f n m v es mark reserved r e number ch to k few is same t =
    let past : List Event = past_of es in
    let len : length past ≡ length es = length_past es in
    let num : number ≡ length past + 1 = omega arith in
    let cl = k.closed in
    let mk = k.marked in
    let law : IsLawful f v (e ∷ past) = in_turn f v past e t.accepted t.usual cl (omega arith) k.past.lawful in
    let led = leads f v past e k.start.view.ordered law in
    rw (same, past_snoc es (record { number = number; event = e; change = ch })) (record {
      seats = k.seats;
      flow = k.flow;
      start = k.start;
      past = record { few = k.past.few; sessions = t.takers k.past.sessions; spelled = t.spelled k.past.spelled; lawful = law };
      history = rw (num, t.change) (ap (λ (l : List Entry). l ++ record { number = length past + 1; event = e; change = change f v (e ∷ past) } ∷ [])
          k.history);
      sessions = t.sessions;
      queued = t.queued;
      shelved = t.shelved ∙ (rw (t.change, k.shelved) (ap (λ (j : JournalView). j.shelf) led));
      advised = t.advised ∙ (rw (t.change, k.advised) (ap (λ (j : JournalView). j.advices) led));
      stops = t.stops;
      numbered = t.numbered;
      renewed = t.renewed;
      recovers = t.recovers;
      closed = omega arith;
      spent = t.spent;
      marked = omega arith;
    })

-- slots

pub state_served : (f : Flow) (v : Start) (past : List Event) (o : Option ℕ) (id : ℕ) (st : TxState) → state_of_served f v past o ≡ Some (id, st) →
    (o ≡ Some id) × (state_of f v past id ≡ st)
state_served f v past None id st h = absurd (cc)
state_served f v past (Some k) id st h =
    let a : k ≡ id = ap (λ (x : Option (ℕ × TxState)). going x) h in
    let b : state_of f v past k ≡ st = ap (λ (x : Option (ℕ × TxState)). stood st x) h in
    (ap Some a, ap (λ (i : ℕ). state_of f v past i) (sym a) ∙ b)
  where
    going : Option (ℕ × TxState) → ℕ
    going None = 0
    going (Some x) = x.0

    stood : TxState → Option (ℕ × TxState) → TxState
    stood st None = st
    stood st (Some x) = x.1

-- a slot that the event leaves alone
pub slot_keep : (f : Flow) (v : Start) (past : List Event) (e : Event) (s : ℕ) (x : Slot) → session_state f v (e ∷ past) s ≡ session_state f v past s
    → ((id : ℕ) → serves f v past s ≡ Some id → last_of f v (e ∷ past) id ≡ last_of f v past id) → is_let_go (e ∷ past) s ≡ is_let_go past s →
    SlotIs f v past s x → SlotIs f v (e ∷ past) s x
slot_keep f v past e s Free h l g k = ap (going_on f) h ∙ k
slot_keep f v past e s (Holding x) h l g k = record {
  serves = h ∙ k.serves;
  unfinished = k.unfinished;
  sound = k.sound;
  last = k.last ∙ sym (l x.id (state_served f v past (serves f v past s) x.id (tx_state f x.machine) k.serves).0);
  gone = k.gone ∙ sym g;
}

going_in : (f : Flow) (v : Start) (past : List Event) (o : Option ℕ) → going_on f (state_of_served f v past o) ≡ held_of f v past o
going_in f v past None = refl
going_in f v past (Some id) = refl

-- which transaction a session holds
pub holds_is : (f : Flow) (v : Start) (past : List Event) (s : ℕ) → holds f v past s ≡ going_on f (session_state f v past s)
holds_is f v past s = sym (going_in f v past (serves f v past s))

pub hold_holds : (f : Flow) (v : Start) (past : List Event) (s : ℕ) (h : Hold) → HoldIs f v past s h → holds f v past s ≡ Some h.id
hold_holds f v past s h k = holds_is f v past s ∙ (rw (k.serves, k.unfinished) refl)

pub slot_sound : (f : Flow) (v : Start) (past : List Event) (s : ℕ) (x : Slot) → SlotIs f v past s x → IsSoundSlot f x
slot_sound f v past s Free k = tt
slot_sound f v past s (Holding h) k = k.sound

slot_made_if : (f : Flow) (v : Start) (past : List Event) (s : ℕ) (m : Machine) (id n : ℕ) (b : Bool) → session_state f v past s ≡ Some (id, tx_state f m) →
    IsSound f m → n ≡ last_of f v past id → is_let_go past s ≡ false → is_ended f (tx_state f m) ≡ b
    → SlotIs f v past s (slot_of f m id n)
slot_made_if f v past s m id n true h sound l g e = rw (e, h, e) refl
slot_made_if f v past s m id n false h sound l g e = rw e (record { serves = h; unfinished = e; sound = sound; last = l; gone = sym g })

-- the slot of a machine that stands where the session's transaction does
pub slot_made : (f : Flow) (v : Start) (past : List Event) (s : ℕ) (m : Machine) (id n : ℕ) → session_state f v past s ≡ Some (id, tx_state f m) →
    IsSound f m → n ≡ last_of f v past id → is_let_go past s ≡ false → SlotIs f v past s (slot_of f m id n)
slot_made f v past s m id n h sound l g = slot_made_if f v past s m id n (is_ended f (tx_state f m)) h sound l g refl

get_set_is : {A : Type 0} (xs : List A) (s : ℕ) (y x : A) → slice_get (slice_set xs s y) s ≡ Some x → y ≡ x
get_set_is [] s y x h = absurd (cc)
get_set_is (z ∷ xs) zero y x h = grind (arith)
get_set_is (z ∷ xs) (suc s) y x h = get_set_is xs s y x h

pub get_set_other : {A : Type 0} (xs : List A) (s t : ℕ) (y : A) → s ≢ t → slice_get (slice_set xs s y) t ≡ slice_get xs t
get_set_other [] s t y h = refl
get_set_other (x ∷ xs) zero zero y h = absurd (h refl)
get_set_other (x ∷ xs) zero (suc t) y h = refl
get_set_other (x ∷ xs) (suc s) zero y h = refl
get_set_other (x ∷ xs) (suc s) (suc t) y h = get_set_other xs s t y (λ e. h (ap (λ n. suc n) e))

set_if : (P Q : ℕ → Slot → Type 0) (slots : List Slot) (s : ℕ) (y : Slot) (t : ℕ) (x : Slot) → Q s y → ((t : ℕ) (x : Slot) → s ≢ t → P t x → Q t x) →
    ((t : ℕ) (x : Slot) → slice_get slots t ≡ Some x → P t x)
    → slice_get (slice_set slots s y) t ≡ Some x → (b : Bool) → (s == t) ≡ b → Q t x
set_if P Q slots s y t x here other all h true e =
    let same : s ≡ t = grind (arith, nat_tests) in
    let is : y ≡ x = get_set_is slots s y x (ap (λ (i : ℕ). slice_get (slice_set slots s y) i) same ∙ h) in
    subst (λ (i : ℕ). Q i x) same (subst (λ (z : Slot). Q s z) is here)
set_if P Q slots s y t x here other all h false e =
    let differ : s ≢ t = grind (arith, nat_tests) in
    other t x differ (all t x (sym (get_set_other slots s t y differ) ∙ h))

-- one slot is replaced
pub set_slots : (P Q : ℕ → Slot → Type 0) (slots : List Slot) (s : ℕ) (y : Slot) → Q s y → ((t : ℕ) (x : Slot) → s ≢ t → P t x → Q t x) →
    ((t : ℕ) (x : Slot) → slice_get slots t ≡ Some x → P t x)
    → (t : ℕ) (x : Slot) → slice_get (slice_set slots s y) t ≡ Some x → Q t x
set_slots P Q slots s y here other all t x h = set_if P Q slots s y t x here other all h (s == t) refl

pub slot_there : (f : Flow) (v : Start) (past : List Event) (slots : List Slot) (s : ℕ) (x : Slot) →
    ((s : ℕ) (x : Slot) → slice_get slots s ≡ Some x → SlotIs f v past s x) → s < length slots → x ≡ get_or slots s x → SlotIs f v past s x
slot_there f v past slots s x all lt is = all s x (slice_get_read slots (length slots) s x refl lt is)

pub same_yes : (s : ℕ) → (s == s) ≡ true
same_yes s = grind (arith, nat_tests)

pub same_no : (s t : ℕ) → s ≢ t → (s == t) ≡ false
same_no s t h = grind (arith, nat_tests)

pub length_set : {A : Type 0} (xs : List A) (s : ℕ) (y : A) → length (slice_set xs s y) ≡ length xs
length_set [] s y = refl
length_set (x ∷ xs) zero y = refl
length_set (x ∷ xs) (suc s) y = ap (λ n. suc n) (length_set xs s y)

-- the mark and the reserve

-- neither the mark nor the memory that is reserved changes anything else
pub kept_in : (f : Flow) (n : ℕ) (v : Start) (es : List Entry) (mark reserved to other : ℕ) (r : Running) → Kept (world f n v es mark reserved) es r →
    to ≤ length es → Kept (world f n v es to other) es r
kept_in f n v es mark reserved to other r k le =
    let len : length (past_of es) ≡ length es = length_past es in
    record {
      seats = k.seats;
      flow = k.flow;
      start = k.start;
      past = k.past;
      history = k.history;
      sessions = k.sessions;
      queued = k.queued;
      shelved = k.shelved;
      advised = k.advised;
      stops = k.stops;
      numbered = k.numbered;
      renewed = k.renewed;
      recovers = k.recovers;
      closed = k.closed;
      spent = k.spent;
      marked = omega arith;
    }

pub kept_mark : (f : Flow) (n : ℕ) (v : Start) (es : List Entry) (mark reserved to : ℕ) (r : Running) → Kept (world f n v es mark reserved) es r →
    to ≤ length es → Kept (world f n v es to reserved) es r
kept_mark f n v es mark reserved to r k le = kept_in f n v es mark reserved to reserved r k le

pub kept_reserved : (f : Flow) (n : ℕ) (v : Start) (es : List Entry) (mark a b : ℕ) (r : Running) → Kept (world f n v es mark a) es r →
    Kept (world f n v es mark b) es r
kept_reserved f n v es mark a b r k =
    let len : length (past_of es) ≡ length es = length_past es in
    let within : mark ≤ length (past_of es) = k.marked in
    kept_in f n v es mark a mark b r k (omega arith)
