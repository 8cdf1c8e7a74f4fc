use Rattle.std.proofs.Common.{ap}
use Rattle.tx_intake.proofs.Passing.{joins_by}
use Rattle.tx_intake.proofs.intake.Intake.settle.Goals as goal

pub absorb-requires-clause-rule : goal.absorb-requires-clause-rule
absorb-requires-clause-rule g c = joins_by g.B.Law.may _ _ _ _ (ap (λ v. v.puts) c.into_pass-pass.ensures.knows) (ap (λ v. v.gets) c.into_pass.ensures.knows)
