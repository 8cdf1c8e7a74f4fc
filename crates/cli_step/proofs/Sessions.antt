-- The texts of sessions, one after the other.
-- for: prompt_words::step_lines, prompt_words::info_text
use Rattle.std.proofs.Common.{◌≡◌, ◌+◌, ◌++◌, ℕ, suc, ap, arith}
use Rattle.tx_trace.specs.Trace.{Text}
use Rattle.cli_step.specs.PromptWords.{each_session}

pub each_more : (text : ℕ → Text) (n : ℕ) → each_session text (n + 1) ≡ each_session text n ++ text n
each_more text n = let one : n + 1 ≡ suc n = omega arith in ap (each_session text) one
