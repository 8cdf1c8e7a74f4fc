-- What becomes of a reply, by what stands there the machine's step: a search through the table's states takes seconds.
-- for: machine::Machine::answered, machine::Machine::chose
use Rattle.std.proofs.Common.{◌≡◌, ℕ, ◌+◌, ◌<◌, ◌≤◌, ◌⊎◌, inl, inr, Bool, true, false, List, [], ◌∷◌, ◌++◌, map, Ok, Err, refl, sym, ap, ◌∙◌, arith}
use Rattle.std.specs.Prelude.{◌&&◌, Result}
use Rattle.sw_participant.specs.declared.kind.Kind.{Kind}
use Rattle.flow_model.specs.declared.flow.Flow.{Flow}
use Rattle.flow_model.specs.declared.flow.PlacedEntry.{PlacedEntry}
use Rattle.flow_asm.specs.declared.view.StepView.{StepView}
use Rattle.flow_asm.specs.declared.view.StepView.TheVariants as view
use Rattle.tx_machine.specs.declared.machine.Machine.{Machine}
use Rattle.tx_machine.specs.declared.values.Item.{Item}
use Rattle.tx_machine.specs.declared.values.Phase.{Phase}
use Rattle.tx_machine.specs.declared.error.MachineError.{MachineError}
use Rattle.tx_machine.specs.declared.error.MachineError.TheVariants.{NotDue, OutOfMemory}
use Rattle.tx_machine.specs.Table.{Upcoming, Prepare, Select, advanced, after_byte, answered_at, chosen, chosen_at, entered, is_due, joined_after, next}
use Rattle.tx_machine.specs.Table.{prepares_next, retry_after, saved_after, selects_next}
use Rattle.tx_machine.specs.Position.{IsAhead, rest_of, stack_upcoming, upcoming_at}
use Rattle.tx_machine.specs.Contract.{IsReady, IsAtCallOrEnd, IsSound, TakesItem, state, tx_state}

pub taken : (f : Flow) (old new : Machine) (x : Item) → IsSound f new → tx_state f new ≡ next f (tx_state f old) x → is_due (tx_state f old) x ≡ true →
    TakesItem f old x (Ok tt) new
taken f old new x sound state due = record { sound = sound; taken = state; due = due; not_due = tt; first = λ none. absurd (cc); kept = tt }

pub refused : (f : Flow) (m : Machine) (x : Item) → IsSound f m → is_due (tx_state f m) x ≡ false → TakesItem f m x (Err NotDue) m
refused f m x sound none = record { sound = sound; taken = tt; due = tt; not_due = λ _. none; first = λ _. refl; kept = refl }

pub lacking : (f : Flow) (old new : Machine) (x : Item) (r : Result (Unit {0}) MachineError) (e : MachineError) → r ≡ Err e → e ≡ OutOfMemory →
    IsSound f new → tx_state f new ≡ tx_state f old → is_due (tx_state f old) x ≡ true → TakesItem f old x r new
lacking f old new x r e is memory sound same due = rw (is, memory) (record {
  sound = sound;
  taken = tt;
  due = tt;
  not_due = λ h. absurd (cc);
  first =
      λ none. absurd (cc);
  kept = same;
})

neither : (b : Bool) → (b && false) ≡ false
neither true = refl
neither false = refl

pub closed : (o b : Bool) → o ≡ false → (o && b) ≡ false
closed o b is = ap (λ (x : Bool). x && b) is

both : (o b : Bool) → o ≡ true → b ≡ true → (o && b) ≡ true
both o b is is' = ap (λ (x : Bool). x && b) is ∙ is'

-- nothing to prepare, and nothing to select

prepares_none : (f : Flow) (m : Machine) (v : StepView) → IsAtCallOrEnd f m → IsAhead f m.step v → ((p : ℕ) (k : Kind) → v ≡ view.Call p k → ⊥) →
    prepares_next (rest_of f m.step m.stack.items) ≡ false
prepares_none f m (view.Call p k) there ahead other = absurd (other p k refl)
prepares_none f m (view.Pick p) there ahead other = ap (λ (l : List Upcoming). prepares_next (l ++ stack_upcoming f m.stack.items)) ahead.1.upcoming
prepares_none f m view.Return there ahead other = rw (ahead.upcoming, there.rested ahead.stage) refl

pub not_prepared : (f : Flow) (m : Machine) (v : StepView) (o : Bool) → IsAtCallOrEnd f m → IsAhead f m.step v → ((p : ℕ) (k : Kind) → v ≡ view.Call p k → ⊥) →
    (o && prepares_next (rest_of f m.step m.stack.items)) ≡ false
not_prepared f m v o there ahead other = ap (λ (b : Bool). o && b) (prepares_none f m v there ahead other) ∙ neither o

selects_none : (f : Flow) (m : Machine) (v : StepView) → IsAtCallOrEnd f m → IsAhead f m.step v → ((p : ℕ) → v ≡ view.Pick p → ⊥) →
    selects_next (rest_of f m.step m.stack.items) ≡ false
selects_none f m (view.Pick p) there ahead other = absurd (other p refl)
selects_none f m (view.Call p k) there ahead other = ap (λ (l : List Upcoming). selects_next (l ++ stack_upcoming f m.stack.items)) ahead.2.upcoming
selects_none f m view.Return there ahead other = rw (ahead.upcoming, there.rested ahead.stage) refl

pub not_selected : (f : Flow) (m : Machine) (v : StepView) (o : Bool) → IsAtCallOrEnd f m → IsAhead f m.step v → ((p : ℕ) → v ≡ view.Pick p → ⊥) →
    (o && selects_next (rest_of f m.step m.stack.items)) ≡ false
not_selected f m v o there ahead other = ap (λ (b : Bool). o && b) (selects_none f m v there ahead other) ∙ neither o

-- what is to come

pub prepared : (f : Flow) (m : Machine) (p : ℕ) (k : Kind) (o : Bool) → IsAhead f m.step (view.Call p k) → o ≡ true →
    (o && prepares_next (rest_of f m.step m.stack.items)) ≡ true
prepared f m p k o ahead is = both o _ is (ap (λ (l : List Upcoming). prepares_next (l ++ stack_upcoming f m.stack.items)) ahead.2.upcoming)

pub selected : (f : Flow) (m : Machine) (p : ℕ) (o : Bool) → IsAhead f m.step (view.Pick p) → o ≡ true →
    (o && selects_next (rest_of f m.step m.stack.items)) ≡ true
selected f m p o ahead is = both o _ is (ap (λ (l : List Upcoming). selects_next (l ++ stack_upcoming f m.stack.items)) ahead.1.upcoming)

room : (xs : List Upcoming) (x : Upcoming) (ys : List Upcoming) (n : ℕ) → xs ≡ x ∷ ys → (xs ≡ []) ⊎ (n < 1000) → n + 1 ≤ 1000
room xs x ys n is (inl none) = absurd (cc)
room xs x ys n is (inr few) = omega arith

pub prepared_room : (f : Flow) (m : Machine) (p : ℕ) (k : Kind) → IsAhead f m.step (view.Call p k) → IsReady f m → m.calls + 1 ≤ 1000
prepared_room f m p k ahead ready = room (rest_of f m.step m.stack.items) (Prepare ahead.0) (ahead.1 ++ stack_upcoming f m.stack.items) m.calls
    (ap (λ (l : List Upcoming). l ++ stack_upcoming f m.stack.items) ahead.2.upcoming) ready.few

pub selected_room : (f : Flow) (m : Machine) (p : ℕ) → IsAhead f m.step (view.Pick p) → IsReady f m → m.calls + 1 ≤ 1000
selected_room f m p ahead ready = room (rest_of f m.step m.stack.items) (Select ahead.0) (upcoming_at f (m.step + 1) ++ stack_upcoming f m.stack.items)
    m.calls (ap (λ (l : List Upcoming). l ++ stack_upcoming f m.stack.items) ahead.1.upcoming) ready.few

entered_before : (e : PlacedEntry) (tail below : List Upcoming) (b : Bool) → e.kind.selector ≡ b → entered e tail ++ below ≡ entered e (tail ++ below)
entered_before e tail below true is = rw is refl
entered_before e tail below false is = rw is refl

pub answered_on : (f : Flow) (m : Machine) (p : ℕ) (k : Kind) (byte : ℕ) (context : List ℕ) (phase : Phase) (retry : Bool) (joined saved : List ℕ) →
    IsAhead f m.step (view.Call p k)
    → phase ≡ after_byte m.phase byte → retry ≡ retry_after m.phase byte m.retry → joined ≡ joined_after byte p m.joined.items →
    saved ≡ saved_after byte context m.saved.items
    → advanced (record (state f m) {
      phase = phase;
      rest = rest_of f (m.step + 1) m.stack.items;
      retry = retry;
      calls = m.calls + 1;
      joined =
          joined;
      saved = saved;
    }) ≡ answered_at (state f m) byte context (rest_of f m.step m.stack.items)
answered_on f m p k byte context phase retry joined saved ahead a b c d =
    let e : PlacedEntry = ahead.0 in
    let below : List Upcoming = stack_upcoming f m.stack.items in
    let on : rest_of f (m.step + 1) m.stack.items ≡ entered e (ahead.1 ++ below) = ap (λ (l : List Upcoming). l ++ below) ahead.2.after
    ∙ entered_before e ahead.1 below e.kind.selector refl in
    let same : record (state f m) {
      phase = phase;
      rest = rest_of f (m.step + 1) m.stack.items;
      retry = retry;
      calls = m.calls + 1;
      joined = joined;
      saved =
          saved;
    }
    ≡ record (state f m) {
      phase = after_byte m.phase byte;
      rest = entered e (ahead.1 ++ below);
      retry = retry_after m.phase byte m.retry;
      calls =
          m.calls + 1;
      joined = joined_after byte e.participant m.joined.items;
      saved = saved_after byte context m.saved.items;
    }
    = rw (a, on, b, c, d, ahead.3) refl in
    ap advanced same ∙ sym (ap (λ (l : List Upcoming). answered_at (state f m) byte context (l ++ below)) ahead.2.upcoming)

pub chose_on : (f : Flow) (m : Machine) (p : ℕ) (text : List ℕ) (rest : List Upcoming) → IsAhead f m.step (view.Pick p) →
    rest ≡ map Prepare (chosen f text) ++ rest_of f (m.step + 1) m.stack.items
    → advanced (record (state f m) { rest = rest; calls = m.calls + 1 }) ≡ chosen_at f (state f m) text (rest_of f m.step m.stack.items)
chose_on f m p text rest ahead is =
    let below : List Upcoming = stack_upcoming f m.stack.items in
    ap (λ (l : List Upcoming). advanced (record (state f m) { rest = l; calls = m.calls + 1 })) is
    ∙ sym (ap (λ (l : List Upcoming). chosen_at f (state f m) text (l ++ below)) ahead.1.upcoming)
