-- The lines that a prompt has besides those of a script, and what they show.
use Rattle.std.specs.Prelude.{ℕ, zero, suc, List, [], ◌++◌, codes, length, Option, Some, None, option_and_then, option_map, if◌then◌else◌}
use Rattle.std.specs.Fmt.{decimal}
use Rattle.std.specs.Str.{bytes_eq}
use Rattle.flow_load.specs.Image.{image_of}
use Rattle.tx_history.specs.History.{queue, shelf}
use Rattle.tx_history.specs.Journal.{entries}
use Rattle.tx_engine.specs.World.{World}
use Rattle.tx_trace.specs.Trace.{Text}
use Rattle.cli_step.specs.TurnLines.{place_now, where_line, whole_line}
use Rattle.cli_step.specs.declared.prompt_words.PromptWord.{PromptWord}
use Rattle.cli_step.specs.declared.prompt_words.PromptWord.TheVariants as word
use Rattle.cli_step.specs.declared.prompt_words.TheConstants.{HELP}

-- a line that is only the word
abbrev pub prompt_word_of : List ℕ → Option PromptWord
prompt_word_of line =
    if bytes_eq line (codes "help") then Some word.Help
    else if bytes_eq line (codes "list") then Some word.List
    else if bytes_eq line (codes "info") then Some word.Info
    else None

-- the text of each session, the first one first
abbrev pub each_session : (ℕ → Text) → ℕ → Text
each_session text zero = []
each_session text (suc n) = each_session text n ++ text n

-- `session S at step N`, where the session's transaction is at a numbered step
abbrev pub step_line : World → ℕ → Option Text
step_line w s = option_map (λ n. codes "session " ++ decimal s ++ codes " at step " ++ decimal n) (option_and_then (λ p. p.step) (place_now w s))

-- `list`: the image of the flow, and at which of its steps the sessions are
abbrev pub list_text : World → Text
list_text w = image_of w.flow ++ each_session (λ s. whole_line (step_line w s)) w.sessions

-- `session S: ` and the line that `where S` prints
abbrev pub session_line : World → ℕ → Text
session_line w s = codes "session " ++ decimal s ++ codes ": " ++ where_line w s

-- `queue Q, shelf H, written M of N`
abbrev pub totals_line : World → Text
totals_line w = codes "queue " ++ decimal (length (queue w.flow w.start w.past))
    ++ codes ", shelf " ++ decimal (length (shelf w.flow w.start w.past))
    ++ codes ", written " ++ decimal w.mark
    ++ codes " of " ++ decimal (length (entries w.flow w.start w.past))

-- `info`: where each session stands, and the totals
abbrev pub info_text : World → Text
info_text w = each_session (λ s. whole_line (Some (session_line w s))) w.sessions ++ whole_line (Some (totals_line w))

-- what a word of the prompt shows
abbrev pub prompt_word_text : PromptWord → World → Text
prompt_word_text word.Help w = HELP.now
prompt_word_text word.List w = list_text w
prompt_word_text word.Info w = info_text w
