use Rattle.std.proofs.Common.{rules}
use Rattle.tx_intake.proofs.Passing.{begins_by, parts_by}
use Rattle.tx_intake.proofs.intake.Intake.new.Goals as goal

pub ruled-requires-clause-rule : goal.ruled-requires-clause-rule
ruled-requires-clause-rule g c = begins_by g.B.Law.may c.requires

pub another-second-requires-clause-rule : goal.another-second-requires-clause-rule
another-second-requires-clause-rule g c = parts_by g.B.Law.may _ _ (search rules) (search rules)
