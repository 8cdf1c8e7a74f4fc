use Rattle.std.proofs.Common.{◌≡◌}
use Rattle.tx_intake.proofs.tests.get_all.Given as goal

abbrev pub invariant-loop : goal.invariant-loop
invariant-loop g l = (l.getter.intake ≡ l.intake.id) × (l.getter.intake ≡ l.fn.getter.intake)
