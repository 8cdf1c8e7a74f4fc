use Rattle.std.proofs.Common.{[], ◌∷◌}
use Rattle.cli_io.proofs.Writing.{beginning_after, beginning_front}
use Rattle.run_switch.proofs.reporter.write_line.Goals as goal

pub returns-in_err-write_whole-clause-beginning : goal.returns-in_err-write_whole-clause-beginning
returns-in_err-write_whole-clause-beginning g c =
    beginning_front _ _ c.args.line.now (10 ∷ []) c.in_err-write_whole.ensures.beginning

pub returns-clause-beginning : goal.returns-clause-beginning
returns-clause-beginning g c =
    beginning_after _ _ _ c.args.line.now (10 ∷ []) c.in_ok-write_whole.ensures.written c.write_whole-2.ensures.beginning
