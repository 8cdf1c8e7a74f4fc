-- Why a line has no words.
-- for: read::text_of
use Rattle.std.proofs.Common.{◌≡◌, ℕ, true, false, List, None, Some, refl}
use Rattle.std.proofs.lemmas.Bool.{false_from_ne_true}
use Rattle.std.proofs.lemmas.Str.{IsUtf8-from_is_utf8, is_utf8-from_IsUtf8}
use Rattle.std.specs.Str.{IsUtf8, is_utf8}
use Rattle.cli_script.specs.Grammar.{has_stray_space, words_refusal}
use Rattle.cli_script.specs.Words.{has_control}
use Rattle.cli_script.specs.declared.error.LineError.TheVariants.{Control, EmptyWord, NotText}

pub no_text : (line : List ℕ) → ¬ (IsUtf8 line) → words_refusal line ≡ Some NotText
no_text line bytes = (let no : is_utf8 line ≡ false = false_from_ne_true _ (λ e. bytes (IsUtf8-from_is_utf8 line e)) in rw no refl)

module _ (line : List ℕ) (text : IsUtf8 line) where
  pub control : has_control line ≡ true → words_refusal line ≡ Some Control
  control has = rw (is_utf8-from_IsUtf8 line text, has) refl

  pub stray_space : has_control line ≡ false → has_stray_space line ≡ true → words_refusal line ≡ Some EmptyWord
  stray_space none has = rw (is_utf8-from_IsUtf8 line text, none, has) refl

  pub words : has_control line ≡ false → has_stray_space line ≡ false → words_refusal line ≡ None
  words none no_stray = rw (is_utf8-from_IsUtf8 line text, none, no_stray) refl
