use Rattle.std.proofs.Common.{◌∙◌}
use Rattle.cli_lines.specs.Lines.{to_come}
use Rattle.cardswitch.proofs.Stepping.{prompted_over}
use Rattle.cardswitch.proofs.steps.prompt_over.Goals as goal

pub returns-clause-prompted : goal.returns-clause-prompted
returns-clause-prompted g c = prompted_over c.args.file c.in_ok-taken.taken (to_come g.R.Read.remaining c.new-lines.result)
    (g.R.Read.remaining c.args.input) (g.O.Write.contents c.args.out.now) (g.E.Write.contents c.args.err.now) (g.O.Write.contents c.run_prompted.new.out)
    (g.E.Write.contents c.run_prompted.new.err)
    c.in_ok-taken.was (c.new-lines.ensures.to_come ∙ c.new.ensures.unread) c.in_ok-run_prompted.ensures.prompted
