use Rattle.std.proofs.Common.{◌∙◌, sym}
use Rattle.cli_step.proofs.Gathering.{placed_next}
use Rattle.cli_step.proofs.head.is_setting.Goals as goal

pub returns-in-Ok-clause-setting : goal.returns-in-Ok-clause-setting
returns-in-Ok-clause-setting c = λ is.
    placed_next c.args.has_file 0 c.args.line.now c.in-Ok.next c.in-Ok.ensures (sym c.is_some.ensures ∙ is)
