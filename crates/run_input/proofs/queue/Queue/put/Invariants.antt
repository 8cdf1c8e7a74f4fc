use Rattle.std.proofs.Common.{◌≡◌}
use Rattle.run_input.proofs.queue.Queue.put.Given as goal

abbrev pub invariant-loop : goal.invariant-loop
invariant-loop g l = record {
  own : l.putter.intake ≡ l.self.intake.id;
  same : l.putter.passed ≡ l.fn.putter.passed;
  left : l.left ≡ l.fn.item;
}
