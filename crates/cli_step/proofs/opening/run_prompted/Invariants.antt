use Rattle.std.specs.Prelude.{◌≡◌, []}
use Rattle.cli_lines.specs.Lines.{room, to_come}
use Rattle.cli_step.proofs.Prompting.{HeadTalksTo}
use Rattle.cli_step.specs.Prompts.{heading}
use Rattle.cli_step.specs.Runs.{Grows}
use Rattle.cli_step.proofs.opening.run_prompted.Given as goal

abbrev pub invariant-loop-settings : goal.invariant-loop-settings
invariant-loop-settings g l = record {
  same : l.stage.file ≡ l.fn.file;
  talked : HeadTalksTo l.fn.file (to_come g.R.Read.remaining l.fn.lines) (to_come g.R.Read.remaining l.lines)
      (heading [] (g.W.Write.contents l.fn.out) (g.E.Write.contents l.fn.err))
      (heading l.settings.items (g.W.Write.contents l.out) (g.E.Write.contents l.err));
  grows_out : Grows (g.W.Write.contents l.fn.out) (g.W.Write.contents l.out);
  grows_err : Grows (g.E.Write.contents l.fn.err) (g.E.Write.contents l.err);
}

abbrev pub decreases-loop-settings : goal.decreases-loop-settings
decreases-loop-settings g l = room l.lines
