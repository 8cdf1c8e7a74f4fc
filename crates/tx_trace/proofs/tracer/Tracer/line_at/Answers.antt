use Rattle.std.proofs.Common.{◌≤◌, ◌+◌, sym, arith}
use Rattle.tx_trace.specs.Follow.{count_of}
use Rattle.tx_trace.proofs.Answered.{none_shown}
use Rattle.tx_trace.proofs.Earlier.{no_later}
use Rattle.tx_trace.proofs.tracer.Tracer.line_at.Goals as goal

pub returns-then-is_none-clause-line : goal.returns-then-is_none-clause-line
returns-then-is_none-clause-line c =
    let counted = c.loop.invariant.counted in
    let within = c.loop-test.true in
    let le : count_of c.loop.self + 1 ≤ c.args.number = omega arith in
    let none = none_shown c.in_ok-next.field-0 _ (rw c.if-is_none.true at c.is_none.ensures) c.in_ok-next.ensures.line in
    sym (no_later c.args.engine.now.flow c.args.engine.now.start c.args.engine.now.past (count_of c.loop.self + 1) c.args.number (omega arith) le none)
