use Rattle.std.proofs.Common.{◌∙◌, sym}
use Rattle.cli_step.proofs.HeadLines.{refused_head}
use Rattle.cli_step.proofs.Prompting.{head_by}
use Rattle.cli_step.proofs.opening.head_line.Goals as goal

pub returns-clause-is : goal.returns-clause-is
returns-clause-is c =
    head_by _ c.args.has_file c.args.line.now _ (sym c.in-None.is ∙ c.prompt_word_at.ensures)
    (refused_head c.args.has_file c.args.before c.args.line.now _ c.in-Err.error c.in_ok-refusal-in-Err.ensures.same c.in_ok-refusal-in-Err.ensures.refused
    (rw c.in-Err.is at c.next_setting.ensures))
