-- No refusal of the grammar is out of memory.
-- for: script::next_setting, actions::Actions::next
use Rattle.std.proofs.Common.{◌≡◌, ◌∷◌, [], ℕ, Bool, not, true, false, List, Option, None, Some, Result, Ok, Err, refl, if◌then◌else◌}
use Rattle.std.specs.Str.{bytes_eq}
use Rattle.sw_base.specs.Refusals.{first_of, refused_if}
use Rattle.sw_context.specs.Names.{is_name}
use Rattle.sw_scripted.specs.declared.puts.Put.{Put}
use Rattle.sw_base.specs.Spelling.{number_spelled}
use Rattle.cli_script.specs.Bytes.{byte_spelled, hex_spelled}
use Rattle.cli_script.specs.Forms.{Meaning, ack_line, ack_numbers, advice_line, answer_byte, answer_line, bare_line, choose_line, flow_line, meant, name_line}
use Rattle.cli_script.specs.Forms.{name_or, or_refuse, restore_line, write_line}
use Rattle.cli_script.specs.Grammar.{Answers, CommandRow, action_rows, meaning_at, meaning_of, query_rows, rows, unless_refused, whole_rows, words_refusal}
use Rattle.cli_script.specs.Puts.{puts_spelled}
use Rattle.cli_script.specs.Scripts.{IsMeant}
use Rattle.cli_script.specs.Words.{cut_at, first_word, further_words, has_control, rest_of}
use Rattle.cli_script.specs.Grammar.{has_stray_space}
use Rattle.std.specs.Str.{is_utf8}
use Rattle.cli_script.specs.declared.error.LineError.{LineError}
use Rattle.cli_script.specs.declared.error.LineError.TheVariants as refusal
use Rattle.cli_script.specs.declared.line.Action.{Action}
use Rattle.cli_script.specs.declared.line.ScriptLine.{ScriptLine}

abbrev is_memory : LineError → Bool
is_memory refusal.OutOfMemory = true
is_memory _ = false

-- the refusal is out of memory
abbrev wants : {A : Type 0} → Result A LineError → Bool
wants (Ok x) = false
wants (Err e) = is_memory e

or_form : {A : Type 0} (e : LineError) (o : Option A) → is_memory e ≡ false → wants (or_refuse e o) ≡ false
or_form e None form = form
or_form e (Some x) form = refl

meant_form : {A : Type 0} (make : A → ScriptLine) (r : Result A LineError) → wants r ≡ false → wants (meant make r) ≡ false
meant_form make (Ok x) form = refl
meant_form make (Err e) form = form

meant_or : {A : Type 0} (make : A → ScriptLine) (e : LineError) (o : Option A) → is_memory e ≡ false → wants (meant make (or_refuse e o)) ≡ false
meant_or make e o form = meant_form make (or_refuse e o) (or_form e o form)

if_form : {A : Type 0} (b : Bool) (x y : Result A LineError) → wants x ≡ false → wants y ≡ false → wants (if b then x else y) ≡ false
if_form true x y fx fy = fx
if_form false x y fx fy = fy

name_form : (make : List ℕ → Action) (e : LineError) (rest : List ℕ) → is_memory e ≡ false → wants (name_line make e rest) ≡ false
name_form make e rest form = meant_form _ (name_or e rest) (if_form (is_name rest) (Ok rest) (Err e) refl form)

bare_form : (act : Action) (e : LineError) (rest : List ℕ) → is_memory e ≡ false → wants (bare_line act e rest) ≡ false
bare_form act e [] form = refl
bare_form act e (b ∷ bs) form = form

ack_form : (p : Option (List ℕ × List ℕ)) → wants (ack_line p) ≡ false
ack_form None = refl
ack_form (Some p) = numbers (number_spelled p.0) (number_spelled p.1) where
  numbers : (id place : Option ℕ) → wants (ack_numbers id place) ≡ false
  numbers None None = refl
  numbers None (Some n) = refl
  numbers (Some n) None = refl
  numbers (Some n) (Some k) = refl

write_form : (rest : List ℕ) → wants (write_line rest) ≡ false
write_form [] = refl
write_form (b ∷ bs) = meant_or _ refusal.Write (number_spelled (b ∷ bs)) refl

flow_form : (rest : List ℕ) → wants (flow_line rest) ≡ false
flow_form [] = refl
flow_form (b ∷ bs) = meant_or _ refusal.Marks _ refl

byte_form : (name : List ℕ) (b : Option ℕ) (ps : Option (List Put)) → wants (answer_byte name b ps) ≡ false
byte_form name None ps = refl
byte_form name (Some b) ps = meant_or _ refusal.Entry ps refl

answer_form : (p : Option (List ℕ × List ℕ)) → wants (answer_line p) ≡ false
answer_form None = refl
answer_form (Some p) =
    if_form (is_name p.0) _ _ (byte_form p.0 (byte_spelled (first_word p.1)) (puts_spelled (further_words (rest_of p.1)))) refl

choose_form : (p : Option (List ℕ × List ℕ)) → wants (choose_line p) ≡ false
choose_form None = refl
choose_form (Some p) = if_form (is_name p.0) _ _ refl refl

advice_form : (p : Option (List ℕ × List ℕ)) → wants (advice_line p) ≡ false
advice_form None = refl
advice_form (Some p) = if_form (is_name p.0) _ _ (meant_or _ refusal.Advice (hex_spelled p.1) refl) refl

restore_form : (rest : List ℕ) → wants (restore_line rest) ≡ false
restore_form rest =
    if_form (is_name (first_word rest)) _ _ (meant_or _ refusal.Entry (puts_spelled (further_words (rest_of rest))) refl) refl

abbrev AreForms : List CommandRow → Type 0
AreForms [] = Unit {0}
AreForms (r ∷ rs) = ((rest : List ℕ) → wants (r.meaning rest) ≡ false) × AreForms rs

whole_forms : AreForms whole_rows
whole_forms = (
  λ rest. bare_form _ refusal.Release rest refl,
  (
    λ rest. ack_form (cut_at 32 rest),
    (
      λ rest. write_form rest,
      (
        λ rest. bare_form _ refusal.Stop rest refl,
        (
          λ rest. bare_form _ refusal.Cut rest refl,
          (
            λ rest. bare_form _ refusal.Auto rest refl,
            tt,
          ),
        ),
      ),
    ),
  ),
)

query_forms : AreForms query_rows
query_forms = (
  λ rest. meant_or _ refusal.Where (number_spelled rest) refl,
  (
    λ rest. meant_or _ refusal.Rest (number_spelled rest) refl,
    (
      λ rest. meant_or _ refusal.Saved (number_spelled rest) refl,
      (
        λ rest. name_form _ refusal.Calls rest refl,
        whole_forms,
      ),
    ),
  ),
)

action_forms : AreForms action_rows
action_forms = (
  λ rest. meant_or _ refusal.Entry (puts_spelled (further_words rest)) refl,
  (
    λ rest. meant_or _ refusal.Take (number_spelled rest) refl,
    (
      λ rest. meant_or _ refusal.Call (number_spelled rest) refl,
      (
        λ rest. meant_or _ refusal.Go (number_spelled rest) refl,
        (
          λ rest. name_form _ refusal.Break rest refl,
          (
            λ rest. name_form _ refusal.Clear rest refl,
            query_forms,
          ),
        ),
      ),
    ),
  ),
)

forms : AreForms rows
forms = (
  λ rest. meant_or _ refusal.Retries (number_spelled rest) refl,
  (
    λ rest. meant_or _ refusal.Sessions (number_spelled rest) refl,
    (
      flow_form,
      (
        λ rest. answer_form (cut_at 32 rest),
        (
          λ rest. choose_form (cut_at 32 rest),
          (
            λ rest. advice_form (cut_at 32 rest),
            (
              restore_form,
              action_forms,
            ),
          ),
        ),
      ),
    ),
  ),
)

row_form : (rs : List CommandRow) (word rest : List ℕ) → AreForms rs → wants (meaning_at rs word rest) ≡ false
row_form [] word rest all = refl
row_form (r ∷ rs) word rest all = if_form (bytes_eq word r.word) _ _ (all.0 rest) (row_form rs word rest all.1)

-- the refusal of a line without words, by the tests of its bytes
abbrev tests : Bool → Bool → Bool → Option LineError
tests utf8 control stray = first_of (refused_if (not utf8) refusal.NotText
    ∷ refused_if control refusal.Control
    ∷ refused_if stray refusal.EmptyWord
    ∷ [])

words_form : (line : List ℕ) (m : Meaning) → wants m ≡ false → wants (unless_refused (words_refusal line) m) ≡ false
words_form line m form = by_tests (is_utf8 line) (has_control line) (has_stray_space line) where
  by_tests : (utf8 control stray : Bool) → wants (unless_refused (tests utf8 control stray) m) ≡ false
  by_tests true false false = form
  by_tests true false true = refl
  by_tests true true s = refl
  by_tests false c s = refl

line_form : (line : List ℕ) → wants (meaning_of line) ≡ false
line_form line = words_form line _ (row_form rows (first_word line) (rest_of line) forms)

form_meant : (m : Meaning) → wants m ≡ false → Answers m (Err refusal.OutOfMemory) → IsMeant m
form_meant (Ok x) form answers = (x, refl)
form_meant (Err e) form answers = absurd (wanted e form answers) where
  wanted : (d : LineError) → is_memory d ≡ false → ◌≡◌ {A = Meaning} (Err refusal.OutOfMemory) (Err d) → ⊥
  wanted refusal.OutOfMemory form same = cc
  wanted d form same = cc

-- out of memory is reported for a line that has a meaning
pub memory_meant : (line : List ℕ) → Answers (meaning_of line) (Err refusal.OutOfMemory) → IsMeant (meaning_of line)
memory_meant line answers = form_meant (meaning_of line) (line_form line) answers
