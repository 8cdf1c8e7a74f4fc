use Rattle.std.proofs.Common.{◌∙◌, ◌++◌, Option, ap, string_bytes, sym}
use Rattle.tx_trace.specs.Trace.{Text}
use Rattle.cli_step.proofs.Sessions.{each_more}
use Rattle.cli_step.specs.PromptWords.{step_line}
use Rattle.cli_step.specs.TurnLines.{whole_line}
use Rattle.cli_step.proofs.prompt_words.step_lines.Goals as goal

pub loop-s-preserved : goal.loop-s-preserved
loop-s-preserved c =
    let engine = c.args.engine.now in
    let s = c.loop-s.s in
    let text = string_bytes c.loop-s.text in
    c.in_ok-push_line.ensures.line ∙ ap (λ (line : Option Text). text ++ whole_line line) c.in_ok-step_line.ensures
    ∙ ap (λ (t : Text). t ++ whole_line (step_line engine s)) c.loop-s.invariant ∙ sym (each_more (λ k. whole_line (step_line engine k)) s)
