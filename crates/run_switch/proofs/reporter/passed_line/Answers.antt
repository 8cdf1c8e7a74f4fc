use Rattle.std.proofs.Common.{append_assoc}
use Rattle.run_switch.proofs.reporter.passed_line.Goals as goal

pub returns : goal.returns
returns c = simp append_assoc c.format.ensures.ok
