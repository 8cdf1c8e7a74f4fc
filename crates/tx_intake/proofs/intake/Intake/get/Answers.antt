use Rattle.std.proofs.Common.{ap}
use Rattle.tx_intake.proofs.Passing.{gets_by, held_of_got}
use Rattle.tx_intake.proofs.intake.Intake.get.Goals as goal

pub pop_as-requires-clause-rule : goal.pop_as-requires-clause-rule
pop_as-requires-clause-rule g c = (gets_by g.B.Law.may _ _ (ap (λ v. v.gets) c.getter.invariant.1), held_of_got g.B.Law.may _ _)
