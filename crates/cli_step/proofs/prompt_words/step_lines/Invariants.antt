use Rattle.std.proofs.Common.{◌≡◌, string_bytes}
use Rattle.cli_step.specs.PromptWords.{each_session, step_line}
use Rattle.cli_step.specs.TurnLines.{whole_line}
use Rattle.cli_step.proofs.prompt_words.step_lines.Given as goal

abbrev pub invariant-loop-s : goal.invariant-loop-s
invariant-loop-s l = string_bytes l.text ≡ each_session (λ s. whole_line (step_line l.engine s)) l.s
