use Rattle.std.proofs.KnownBytes.{Appends-trans}
use Rattle.cli_step.proofs.Joining.{grows_none, grows_then}
use Rattle.cli_step.proofs.Prompting.{beginning_grows}
use Rattle.cli_step.proofs.prompt.report.Goals as goal

pub returns-in_err-text-clause-grows : goal.returns-in_err-text-clause-grows
returns-in_err-text-clause-grows g c = grows_none _

pub returns-in_err-write_whole-clause-grows : goal.returns-in_err-write_whole-clause-grows
returns-in_err-write_whole-clause-grows g c = beginning_grows _ _ _ c.write_whole.ensures.beginning

pub returns-in_err-write_out-clause-grows : goal.returns-in_err-write_out-clause-grows
returns-in_err-write_out-clause-grows g c =
    grows_then _ _ _ (_, c.in_ok-write_whole.ensures.written) (beginning_grows _ _ _ c.write_out.ensures.beginning)

pub returns-clause-reported : goal.returns-clause-reported
returns-clause-reported g c = (_, Appends-trans _ _ _ _ _ c.in_ok-write_whole.ensures.written c.in_ok-write_out.ensures.written)

pub returns-clause-grows : goal.returns-clause-grows
returns-clause-grows g c = (_, Appends-trans _ _ _ _ _ c.in_ok-write_whole.ensures.written c.in_ok-write_out.ensures.written)
