use Rattle.std.proofs.Common.{◌∙◌, ◌++◌, Some, ap, string_bytes, sym}
use Rattle.tx_trace.specs.Trace.{Text}
use Rattle.cli_step.proofs.Sessions.{each_more}
use Rattle.cli_step.specs.PromptWords.{session_line}
use Rattle.cli_step.specs.TurnLines.{whole_line}
use Rattle.cli_step.proofs.prompt_words.info_text.Goals as goal

pub loop-s-preserved : goal.loop-s-preserved
loop-s-preserved c =
    let engine = c.args.engine.now in
    let s = c.loop-s.s in
    let text = string_bytes c.loop-s.text in
    c.in_ok-push_line.ensures.line ∙ ap (λ (line : Text). text ++ whole_line (Some line)) c.in_ok-session_line.ensures
    ∙ ap (λ (t : Text). t ++ whole_line (Some (session_line engine s))) c.loop-s.invariant ∙ sym (each_more (λ k. whole_line (Some (session_line engine k))) s)
