use Rattle.std.proofs.Common.{◌∙◌}
use Rattle.cli_lines.specs.Lines.{to_come}
use Rattle.cardswitch.proofs.Stepping.{ran_over}
use Rattle.cardswitch.proofs.steps.step_over.Goals as goal

pub returns-clause-ran : goal.returns-clause-ran
returns-clause-ran g c = ran_over c.args.file c.in_ok-flow.flow (to_come g.R.Read.remaining c.new-lines.result) (g.R.Read.remaining c.args.input)
    (g.O.Write.contents c.args.out.now) (g.O.Write.contents c.run_lines.new.out)
    c.in_ok-flow.was (c.new-lines.ensures.to_come ∙ c.new.ensures.unread) c.in_ok-run_lines.ensures.ran
