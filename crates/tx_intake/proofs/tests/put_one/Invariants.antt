use Rattle.std.proofs.Common.{◌≡◌}
use Rattle.tx_intake.proofs.tests.put_one.Given as goal

abbrev pub invariant-loop : goal.invariant-loop
invariant-loop g l = (l.putter.intake ≡ l.intake.id) × (l.putter.intake ≡ l.initial.putter.intake)
