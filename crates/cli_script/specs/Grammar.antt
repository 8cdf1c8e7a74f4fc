-- The grammar of a script's lines: which line has which form and what it means, or else why it is refused.
use Rattle.std.specs.Prelude.{◌≡◌, ℕ, Bool, not, ◌&&◌, List, [], ◌∷◌, codes}
use Rattle.std.specs.Prelude.{Option, Some, None, Result, Ok, Err, if◌then◌else◌}
use Rattle.std.specs.Borrow.{Bor}
use Rattle.std.specs.Str.{bytes_eq, is_utf8}
use Rattle.sw_base.specs.Refusals.{first_of, refused_if}
use Rattle.cli_script.specs.Forms.{Meaning, ack_line, advice_line, answer_line, bare_line, choose_line}
use Rattle.cli_script.specs.Forms.{flow_line, meant, name_line, number_line, number_or, offer_line}
use Rattle.cli_script.specs.Forms.{restore_line, write_line}
use Rattle.cli_script.specs.Words.{cut_at, first_word, has_control, has_empty_word, rest_of}
use Rattle.cli_script.specs.declared.error.LineError.{LineError}
use Rattle.cli_script.specs.declared.error.LineError.TheVariants as refusal
use Rattle.cli_script.specs.declared.line.ScriptLine.TheVariants as line
use Rattle.cli_script.specs.declared.line.Setting.TheVariants as setting
use Rattle.cli_script.specs.declared.line.Action.TheVariants as action

-- a row: the first word of a line, and what the text after its space means
pub record CommandRow : Type 0 where
  pub word : List ℕ
  pub meaning : List ℕ → Meaning

abbrev pub row : List ℕ → (List ℕ → Meaning) → CommandRow
row word meaning = record { word = word; meaning = meaning }

-- the grammar of actions: those on the shelf, the journal and the whole plant, those that show something, and those of the queue and
-- of sessions
abbrev pub whole_rows : List CommandRow
whole_rows = row (codes "release") (bare_line action.Release refusal.Release)
    ∷ row (codes "ack") (λ rest. ack_line (cut_at 32 rest))
    ∷ row (codes "write") write_line
    ∷ row (codes "stop") (bare_line action.Stop refusal.Stop)
    ∷ row (codes "cut") (bare_line action.Cut refusal.Cut)
    ∷ row (codes "auto") (bare_line action.Auto refusal.Auto)
    ∷ []

abbrev pub query_rows : List CommandRow
query_rows = row (codes "where") (number_line action.Where refusal.Where)
    ∷ row (codes "rest") (number_line action.Rest refusal.Rest)
    ∷ row (codes "saved") (number_line action.Saved refusal.Saved)
    ∷ row (codes "calls") (name_line action.Calls refusal.Calls)
    ∷ whole_rows

abbrev pub action_rows : List CommandRow
action_rows = row (codes "offer") offer_line
    ∷ row (codes "take") (number_line action.Take refusal.Take)
    ∷ row (codes "call") (number_line action.Call refusal.Call)
    ∷ row (codes "go") (number_line action.Go refusal.Go)
    ∷ row (codes "break") (name_line action.Break refusal.Break)
    ∷ row (codes "clear") (name_line action.Clear refusal.Clear)
    ∷ query_rows

-- the grammar: settings, then actions
abbrev pub rows : List CommandRow
rows = row (codes "retries") (λ rest. meant (λ n. line.Setting (setting.Retries n)) (number_or refusal.Retries rest))
    ∷ row (codes "sessions") (λ rest. meant (λ n. line.Setting (setting.Sessions n)) (number_or refusal.Sessions rest))
    ∷ row (codes "flow") flow_line
    ∷ row (codes "answer") (λ rest. answer_line (cut_at 32 rest))
    ∷ row (codes "choose") (λ rest. choose_line (cut_at 32 rest))
    ∷ row (codes "advice") (λ rest. advice_line (cut_at 32 rest))
    ∷ row (codes "restore") restore_line
    ∷ action_rows

-- by the first row that has the word; a word that no row has is refused
abbrev pub meaning_at : List CommandRow → List ℕ → List ℕ → Meaning
meaning_at [] word rest = Err refusal.Command
meaning_at (r ∷ rs) word rest = if bytes_eq word r.word then r.meaning rest else meaning_at rs word rest

-- the words of a line are separated by single spaces; the text of a `choose` line may have any spaces
abbrev pub has_stray_space : List ℕ → Bool
has_stray_space line = not (bytes_eq (first_word line) (codes "choose")) && has_empty_word line

-- why a line has no words, in the order in which it is tried
abbrev pub words_refusal : List ℕ → Option LineError
words_refusal line = first_of (refused_if (not (is_utf8 line)) refusal.NotText
    ∷ refused_if (has_control line) refusal.Control
    ∷ refused_if (has_stray_space line) refusal.EmptyWord
    ∷ [])

abbrev pub unless_refused : Option LineError → Meaning → Meaning
unless_refused None meaning = meaning
unless_refused (Some e) meaning = Err e

-- what a line means, or why it is refused
abbrev pub meaning_of : List ℕ → Meaning
meaning_of line = unless_refused (words_refusal line) (meaning_at rows (first_word line) (rest_of line))

-- what is answered is what was meant; out of memory is reported only for what has a meaning
abbrev pub Answers : {A : Type 0} → Result A LineError → Result A LineError → Type 0
Answers (Err e) answer = answer ≡ Err e
Answers (Ok meant) (Ok answer) = answer ≡ meant
Answers (Ok meant) (Err e) = e ≡ refusal.OutOfMemory

-- a line is text with words, or the reason why it is not
abbrev pub IsText : List ℕ → Result (Bor (List ℕ)) LineError → Type 0
IsText line (Ok text) = (text.now ≡ line) × (words_refusal line ≡ None)
IsText line (Err e) = words_refusal line ≡ Some e
