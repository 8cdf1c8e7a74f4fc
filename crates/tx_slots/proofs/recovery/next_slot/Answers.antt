-- The rows, one by one: a search through the states of a reopened transaction takes seconds.
use Rattle.std.proofs.Common.{◌≡◌, ◌∙◌, ℕ, ◌+◌, ◌≤◌, Bool, true, false, List, ◌∷◌, drop, refl, sym, ap, arith}
use Rattle.std.proofs.Common.{drop_of_length-le}
use Rattle.std.specs.Prelude.{nat_lt, not, ◌&&◌}
use Rattle.std.proofs.lemmas.Bool.Decides.{nat_tests}
use Rattle.std.proofs.lemmas.Option.{slice_get_read}
use Rattle.flow_model.specs.declared.flow.Flow.{Flow}
use Rattle.tx_machine.specs.declared.machine.Machine.{Machine}
use Rattle.tx_machine.specs.Contract.{IsSound, tx_state}
use Rattle.tx_history.specs.declared.journal.Row.{Row}
use Rattle.tx_history.specs.History.{is_ended, reopened}
use Rattle.tx_slots.specs.Slots.{is_holding, slot_of}
use Rattle.tx_slots.specs.Rows.{IsSlotOfRow, next_row}
use Rattle.tx_slots.proofs.recovery.next_slot.Goals.{then-id-next+in_ok-reopened+else-is_holding, else-id-next}
use Rattle.tx_slots.proofs.recovery.next_slot.Goals as goal
use Rattle.tx_slots.proofs.RowCuts.{at_row}

passed : (f : Flow) (rows : List (ℕ × Row)) (id : ℕ) (r : ℕ × Row) → (nat_lt id r.0 && not (is_ended f (reopened f r.1))) ≡ false →
    next_row f (r ∷ rows) id ≡ next_row f rows id
passed f rows id r fails = rw fails refl

low : (f : Flow) (id : ℕ) (r : ℕ × Row) → r.0 ≤ id → (nat_lt id r.0 && not (is_ended f (reopened f r.1))) ≡ false
low f id r le = let no : nat_lt id r.0 ≡ false = grind (arith, nat_tests) in ap (λ (b : Bool). b && not (is_ended f (reopened f r.1))) no

over : (f : Flow) (m : Machine) (id n : ℕ) (b : Bool) → is_ended f (tx_state f m) ≡ b → is_holding (slot_of f m id n) ≡ false → b ≡ true
over f m id n true e free = refl
over f m id n false e free = let held : is_holding (slot_of f m id n) ≡ true = rw e refl in absurd (cc)

none_to_tell : (f : Flow) (id : ℕ) (r : ℕ × Row) (m : Machine) → tx_state f m ≡ reopened f r.1 → is_holding (slot_of f m r.0 0) ≡ false →
    (nat_lt id r.0 && not (is_ended f (reopened f r.1))) ≡ false
none_to_tell f id r m state free =
    let ended : is_ended f (reopened f r.1) ≡ true = ap (is_ended f) (sym state) ∙ over f m r.0 0 (is_ended f (tx_state f m)) refl free in
    ap (λ (b : Bool). nat_lt id r.0 && not b) ended ∙ and_false (nat_lt id r.0)
  where
    and_false : (b : Bool) → (b && false) ≡ false
    and_false true = refl
    and_false false = refl

found : (f : Flow) (rows : List (ℕ × Row)) (id : ℕ) (r : ℕ × Row) (m : Machine) (b : Bool) → is_ended f (tx_state f m) ≡ b →
    is_ended f (reopened f r.1) ≡ b → nat_lt id r.0 ≡ true → IsSound f m → tx_state f m ≡ reopened f r.1 → is_holding (slot_of f m r.0 0) ≡ true
    → IsSlotOfRow f (next_row f (r ∷ rows) id) (slot_of f m r.0 0)
found f rows id r m true e e' later sound state held = let free : is_holding (slot_of f m r.0 0) ≡ false = rw e refl in absurd (cc)
found f rows id r m false e e' later sound state held = rw (later, e', e) (record { id_is = refl; sound = sound; state = state; last = refl; let_go = refl })

pub returns-then-is_holding : goal.returns-then-is_holding
returns-then-is_holding c =
    let f : Flow = c.args.code.now in
    let m : Machine = c.in_ok-reopened.field-0 in
    let state = c.in_ok-reopened.ensures.state in
    let there = at_row c.args.rows.now c.loop-next.next-index c.loop-next-item.result c.loop-next-test.true c.loop-next-item.is in
    let later : nat_lt c.args.id c.loop-next-item.result.0 ≡ true = grind (arith, nat_tests) in
    let held : is_holding (slot_of f m c.loop-next-item.result.0 0) ≡ true =
    ap is_holding (sym c.slot_for-slot.ensures) ∙ (sym c.is_holding.ensures ∙ c.if-is_holding.true) in
    rw (c.loop-next.invariant, there, c.slot_for-slot.ensures) (found f (drop (c.loop-next.next-index + 1) c.args.rows.now) c.args.id
    c.loop-next-item.result m (is_ended f (tx_state f m)) refl (ap (is_ended f) (sym state)) later c.in_ok-reopened.ensures.sound state held)

pub loop-next-preserved : goal.loop-next-preserved
loop-next-preserved c =
    let f : Flow = c.args.code.now in
    let there = at_row c.args.rows.now c.loop-next.next-index c.loop-next-item.result c.loop-next-test.true c.loop-next-item.is in
    let none : (nat_lt c.args.id c.loop-next-item.result.0 && not (is_ended f (reopened f c.loop-next-item.result.1))) ≡ false = elim c.if-id-next.branch [
      | then-id-next+in_ok-reopened+else-is_holding w ↦ none_to_tell f c.args.id c.loop-next-item.result w.in_ok-reopened.field-0
          w.in_ok-reopened.ensures.state (ap is_holding (sym w.slot_for-slot.ensures) ∙ (sym w.is_holding.ensures ∙ w.if-is_holding.false))
      | else-id-next w ↦ low f c.args.id c.loop-next-item.result w.if-id-next.false
    ] in
    c.loop-next.invariant ∙ (ap (λ (xs : List (ℕ × Row)). next_row f xs c.args.id) there ∙ passed f (drop (c.loop-next.next-index + 1) c.args.rows.now)
    c.args.id c.loop-next-item.result none)

pub reopened-requires : goal.reopened-requires
reopened-requires c = c.requires c.loop-next.next-index c.loop-next-item.result
    (slice_get_read c.args.rows.now _ c.loop-next.next-index c.loop-next-item.result refl c.loop-next-test.true c.loop-next-item.is)

pub returns : goal.returns
returns c = rw (c.loop-next.invariant, drop_of_length-le c.args.rows.now c.loop-next-test.false) tt
