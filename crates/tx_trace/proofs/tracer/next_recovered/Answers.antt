-- The rows, one by one: a search through the states of a reopened transaction takes seconds.
use Rattle.std.proofs.Common.{◌≡◌, ◌∙◌, ℕ, ◌+◌, ◌≤◌, Bool, true, false, List, ◌∷◌, drop, Some, refl, sym, ap, arith}
use Rattle.std.proofs.Common.{drop_of_length-le}
use Rattle.std.specs.Prelude.{nat_lt}
use Rattle.std.proofs.lemmas.Bool.Decides.{nat_tests}
use Rattle.flow_model.specs.declared.flow.Flow.{Flow}
use Rattle.tx_machine.specs.declared.machine.Machine.{Machine}
use Rattle.tx_machine.specs.declared.values.Due.{Due}
use Rattle.tx_machine.specs.Contract.{tx_state}
use Rattle.tx_machine.specs.Due.{due_of}
use Rattle.tx_history.specs.declared.journal.Row.{Row}
use Rattle.tx_history.specs.History.{is_ended, is_over, reopened}
use Rattle.tx_trace.specs.Follow.{next_recovered}
use Rattle.tx_trace.proofs.tracer.next_recovered.Goals.{then-over-id+in_ok-machine+else-not-is_over, else-over-id}
use Rattle.tx_trace.proofs.tracer.next_recovered.Goals as goal
use Rattle.tx_slots.proofs.RowCuts.{at_row}

found : (f : Flow) (rows : List (ℕ × Row)) (over : ℕ) (r : ℕ × Row) → nat_lt over r.0 ≡ true → is_ended f (reopened f r.1) ≡ false →
    next_recovered f (r ∷ rows) over ≡ Some r.0
found f rows over r later going = rw (later, going) refl

ended : (f : Flow) (rows : List (ℕ × Row)) (over : ℕ) (r : ℕ × Row) → nat_lt over r.0 ≡ true → is_ended f (reopened f r.1) ≡ true →
    next_recovered f (r ∷ rows) over ≡ next_recovered f rows over
ended f rows over r later done = rw (later, done) refl

low : (f : Flow) (rows : List (ℕ × Row)) (over : ℕ) (r : ℕ × Row) → r.0 ≤ over → next_recovered f (r ∷ rows) over ≡ next_recovered f rows over
low f rows over r le = let not_after : nat_lt over r.0 ≡ false = grind (arith, nat_tests) in rw not_after refl

tested : (f : Flow) (r : ℕ × Row) (m : Machine) (d : Due) (o b : Bool) → tx_state f m ≡ reopened f r.1 → d ≡ due_of f (tx_state f m) → o ≡ is_over d →
    o ≡ b → is_ended f (reopened f r.1) ≡ b
tested f r m d o b state due over is = ap (is_ended f) (sym state) ∙ (ap is_over (sym due) ∙ (sym over ∙ is))

pub returns-then-not-is_over : goal.returns-then-not-is_over
returns-then-not-is_over c =
    let f : Flow = c.args.code.now in
    let r : ℕ × Row = c.loop-id-item.result in
    let there = at_row c.args.rows.now c.loop-id.id-index r c.loop-id-test.true c.loop-id-item.is in
    let later : nat_lt c.args.over r.0 ≡ true = grind (arith, nat_tests) in
    let going = tested f r c.in_ok-machine.machine c.due.result c.is_over.result false c.in_ok-machine.ensures.state c.due.ensures.due c.is_over.ensures
    c.if-not-is_over.true in
    sym (c.loop-id.invariant ∙ (ap (λ (xs : List (ℕ × Row)). next_recovered f xs c.args.over) there
    ∙ found f (drop (c.loop-id.id-index + 1) c.args.rows.now) c.args.over r later going))

pub loop-id-preserved : goal.loop-id-preserved
loop-id-preserved c =
    let f : Flow = c.args.code.now in
    let r : ℕ × Row = c.loop-id-item.result in
    let there = at_row c.args.rows.now c.loop-id.id-index r c.loop-id-test.true c.loop-id-item.is in
    let rest : List (ℕ × Row) = drop (c.loop-id.id-index + 1) c.args.rows.now in
    let on : next_recovered f (r ∷ rest) c.args.over ≡ next_recovered f rest c.args.over = elim c.if-over-id.branch [
      | then-over-id+in_ok-machine+else-not-is_over w ↦
          (let later : nat_lt c.args.over r.0 ≡ true = grind (arith, nat_tests, w.if-over-id.true) in
          ended f rest c.args.over r later (tested f r w.in_ok-machine.machine w.due.result w.is_over.result true w.in_ok-machine.ensures.state
          w.due.ensures.due w.is_over.ensures w.if-not-is_over.false))
      | else-over-id w ↦ low f rest c.args.over r w.if-over-id.false
    ] in
    c.loop-id.invariant ∙ (ap (λ (xs : List (ℕ × Row)). next_recovered f xs c.args.over) there ∙ on)

pub returns : goal.returns
returns c = sym (c.loop-id.invariant ∙ ap (λ (xs : List (ℕ × Row)). next_recovered c.args.code.now xs c.args.over)
    (drop_of_length-le c.args.rows.now c.loop-id-test.false))
