use Rattle.std.proofs.Common.{◌≡◌, Some, string_bytes}
use Rattle.cli_step.specs.PromptWords.{each_session, session_line}
use Rattle.cli_step.specs.TurnLines.{whole_line}
use Rattle.cli_step.proofs.prompt_words.info_text.Given as goal

abbrev pub invariant-loop-s : goal.invariant-loop-s
invariant-loop-s l = string_bytes l.text ≡ each_session (λ s. whole_line (Some (session_line l.engine s))) l.s
