-- Lines that others follow: what is said of the first ones holds of all.
-- (for the crates above, which read a script line by line)
use Rattle.std.proofs.Common.{◌≡◌, ◌≢◌, ◌∙◌, ◌⊎◌, ◌||◌, ◌+◌, ◌≤◌, ◌<◌, ◌^◌, ◌++◌, ◌∷◌, [], ℕ, Bool, true, false, List, length, Option}
use Rattle.std.proofs.Common.{None, inl, inr}
use Rattle.std.proofs.Common.{is_some, refl, sym, ap, arith, length-append, append-nil, subst}
use Rattle.std.specs.List.{list_any}
use Rattle.flow_model.specs.declared.flow.Flow.{Flow}
use Rattle.cli_lines.proofs.FirstLines.{after_alone, after_ended, after_whole, before_whole, first_ended, first_last, has_ended}
use Rattle.cli_lines.specs.Feeds.{first_line, has_line_feed}
use Rattle.cli_script.proofs.Heads.{fewer, one_more, none_more}
use Rattle.cli_script.specs.Grammar.{meaning_of}
use Rattle.cli_script.specs.Heads.{AreSettings, AreWhole, EndsAtLine, IsHead, IsNoSetting, IsPlacedSetting, MayPrecede}
use Rattle.cli_script.specs.Scripts.{IsAfter, IsOpened, IsOpenedAs, is_misplaced, line_of, others_of}
use Rattle.cli_script.specs.declared.line.ScriptLine.TheVariants as line
use Rattle.cli_script.specs.declared.line.Setting.{Setting}
use Rattle.cli_script.specs.declared.script.Script.{Script}

-- bytes that a line feed ends have one
has_feed : (xs text : List ℕ) → xs ≡ text ++ 10 ∷ [] → has_line_feed xs ≡ true
has_feed xs text ended = ap has_line_feed ended ∙ has_ended text

pub line_continues : (xs more : List ℕ) → xs ≢ [] → MayPrecede xs more → line_of (xs ++ more) ≡ line_of xs
line_continues xs more some (inl none) = ap (λ l. line_of (xs ++ l)) none ∙ ap line_of (append-nil xs)
line_continues xs more some (inr (inl empty)) = absurd (some empty)
line_continues xs more some (inr (inr (text, ended))) = before_whole xs more (has_feed xs text ended)

pub others_continue : (xs more : List ℕ) → xs ≢ [] → MayPrecede xs more → others_of (xs ++ more) ≡ others_of xs ++ more
others_continue xs more some (inl none) =
    ap (λ l. others_of (xs ++ l)) none ∙ ap others_of (append-nil xs) ∙ sym (append-nil (others_of xs)) ∙ ap (λ l. others_of xs ++ l) (sym none)
others_continue xs more some (inr (inl empty)) = absurd (some empty)
others_continue xs more some (inr (inr (text, ended))) = after_whole xs more (has_feed xs text ended)

others_whole : (xs text : List ℕ) → xs ≡ text ++ 10 ∷ [] → AreWhole (others_of xs)
others_whole xs text ended = subst (λ (l : List ℕ). AreWhole (others_of l)) (sym ended) (after_ended text)

pub others_precede : (xs more : List ℕ) → xs ≢ [] → MayPrecede xs more → MayPrecede (others_of xs) more
others_precede xs more some (inl none) = inl none
others_precede xs more some (inr (inl empty)) = absurd (some empty)
others_precede xs more some (inr (inr (text, ended))) = inr (others_whole xs text ended)

-- a first line may precede what follows it
first_by : (xs : List ℕ) (b : Bool) → has_line_feed xs ≡ b → MayPrecede (first_line xs) (others_of xs)
first_by xs true has = inr (inr (first_ended xs has))
first_by xs false has = inl (after_alone xs has)

pub first_precedes : (xs : List ℕ) → MayPrecede (first_line xs) (others_of xs)
first_precedes xs = first_by xs (has_line_feed xs) refl

whole_more : (xs ys : List ℕ) → AreWhole xs → AreWhole ys → AreWhole (xs ++ ys)
whole_more xs ys first (inl none) = subst AreWhole (sym (ap (λ (l : List ℕ). xs ++ l) none ∙ append-nil xs)) first
whole_more xs ys first (inr (text, ended)) = inr (xs ++ text, ap (λ (l : List ℕ). xs ++ l) ended ∙ regroup xs text) where
  regroup : (k l : List ℕ) → k ++ (l ++ 10 ∷ []) ≡ (k ++ l) ++ 10 ∷ []
  regroup [] l = refl
  regroup (b ∷ k) l = ap (λ (r : List ℕ). b ∷ r) (regroup k l)

-- two that follow one another may precede a third
pub both_precede : (xs ys more : List ℕ) → MayPrecede xs ys → ys ≢ [] → MayPrecede ys more → MayPrecede (xs ++ ys) more
both_precede xs ys more first some (inl none) = inl none
both_precede xs ys more (inl none) some (inr last) = absurd (some none)
both_precede xs ys more (inr first) some (inr last) = inr (whole_more xs ys first last)

-- settings

pub after_continues : (ss : List Setting) (xs rest more : List ℕ) → IsAfter ss xs rest → MayPrecede xs more
    → IsAfter ss (xs ++ more) (rest ++ more) × MayPrecede rest more
after_continues [] xs rest more after may =
    (ap (λ (l : List ℕ). l ++ more) after, subst (λ (l : List ℕ). MayPrecede l more) (sym after) may)
after_continues (s ∷ ss) xs rest more (begins, after) may =
    let later = after_continues ss (others_of xs) rest more after (others_precede xs more begins.0 may) in (
      (
        (some_more xs more begins.0, ap meaning_of (line_continues xs more begins.0 may) ∙ begins.1),
        subst (λ (l : List ℕ). IsAfter ss l (rest ++ more)) (sym (others_continue xs more begins.0 may)) later.0,
      ),
      later.1,
    ) where
      some_more : (k l : List ℕ) → k ≢ [] → k ++ l ≢ []
      some_more [] l some = absurd (some refl)
      some_more (b ∷ k) l some = λ none. cc

pub settings_more : (has_file : Bool) (xs bytes : List ℕ) → AreSettings has_file xs → MayPrecede xs (first_line bytes)
    → IsPlacedSetting has_file (first_line bytes) → AreSettings has_file (xs ++ first_line bytes)
settings_more has_file xs bytes (ss, after, placed) may (s, begins, is) = (
  ss ++ s ∷ [],
  subst (IsAfter (ss ++ s ∷ []) (xs ++ first_line bytes)) (first_last bytes)
      (one_more ss s (xs ++ first_line bytes) (first_line bytes) (after_continues ss xs [] (first_line bytes) after may).0 begins),
  none_more (is_misplaced has_file) ss s placed is,
)

or_parts : (a b : Bool) → (a || b) ≡ false → (a ≡ false) × (b ≡ false)
or_parts true b none = cc
or_parts false b none = (refl, none)

any_parts : (p : Setting → Bool) (s : Setting) (ss : List Setting) → list_any p (s ∷ ss) ≡ false → (p s ≡ false) × (list_any p ss ≡ false)
any_parts p s ss none = or_parts (p s) (list_any p ss) none

-- a line that is not a setting does not end settings
pub no_settings : (has_file : Bool) (ss : List Setting) (xs line : List ℕ) → AreWhole xs → IsAfter ss (xs ++ line) []
    → list_any (is_misplaced has_file) ss ≡ false → line ≢ [] → IsNoSetting has_file line → ⊥
no_settings has_file [] xs line whole after placed some none = some (end xs line (sym after)) where
  end : (k l : List ℕ) → k ++ l ≡ [] → l ≡ []
  end [] l all = all
  end (b ∷ k) l all = cc
no_settings has_file (s ∷ ss) [] line whole (begins, after) placed some none =
    let wrong = none s begins in let right = (any_parts (is_misplaced has_file) s ss placed).0 in let both : true ≡ false = sym wrong ∙ right in cc
no_settings has_file (s ∷ ss) (b ∷ xs) line whole (begins, after) placed some none =
    let here : b ∷ xs ≢ [] = λ empty. cc in
    no_settings has_file ss (others_of (b ∷ xs)) line (whole_others whole)
    (subst (λ (l : List ℕ). IsAfter ss l []) (others_continue (b ∷ xs) line here (inr whole)) after)
    (any_parts (is_misplaced has_file) s ss placed).1 some none where
      whole_others : AreWhole (b ∷ xs) → AreWhole (others_of (b ∷ xs))
      whole_others (inl empty) = cc
      whole_others (inr (text, ended)) = others_whole (b ∷ xs) text ended

few_after : (ss : List Setting) (xs rest : List ℕ) → IsAfter ss xs rest → length ss + length rest ≤ length xs
few_after [] xs rest after = let same = ap length after in omega arith
few_after (s ∷ ss) xs rest (begins, after) =
    let later = few_after ss (others_of xs) rest after in let less = fewer xs begins.0 in omega arith

-- a script of only settings, by its head
pub only_settings : (file : Option Flow) (script head rest : List ℕ) → IsHead (is_some file) script head rest → IsOpenedAs file head None
    → IsOpenedAs file script None
only_settings file script head rest is (ss, after, placed) = by is.last where
  by : EndsAtLine (is_some file) head ⊎ (AreSettings (is_some file) head × (rest ≡ [])) → IsOpenedAs file script None
  by (inl ends) = absurd (no_settings (is_some file) ss ends.settings ends.line ends.first
      (subst (λ (l : List ℕ). IsAfter ss l []) ends.whole after) placed ends.some ends.last)
  by (inr all) = (ss, subst (λ (l : List ℕ). IsAfter ss l []) (sym (is.whole ∙ ap (λ (l : List ℕ). head ++ l) all.1 ∙ append-nil head)) after, placed)

-- a script that was opened by its head: the lines that follow it are among those to come
pub opened_on : (file : Option Flow) (head rest : List ℕ) (s : Script) → MayPrecede head rest → IsOpened file head s
    → length (head ++ rest) < 2 ^ 64
    → (t : Script) × IsOpened file (head ++ rest) t × (t.flow ≡ s.flow) × (t.sessions ≡ s.sessions)
    × (t.actions.rest.now ≡ s.actions.rest.now ++ rest) × (t.actions.lines ≡ s.actions.lines) × MayPrecede s.actions.rest.now rest
opened_on file head rest s may opened short =
    let later = after_continues opened.stated head s.actions.rest.now rest opened.after may in
    let small = few_after opened.stated head s.actions.rest.now opened.after in
    let counted = opened.count in
    let joined = length-append s.actions.rest.now rest in
    let whole = length-append head rest in
    let fits : s.actions.lines + length (s.actions.rest.now ++ rest) < 2 ^ 64 = omega arith in
    let some = opened.acts.0 in (
      record s { actions = record s.actions { rest = record s.actions.rest { now = s.actions.rest.now ++ rest }; numbered = fits } },
      record {
        stated = opened.stated;
        after = later.0;
        placed = opened.placed;
        acts = (more s.actions.rest.now rest some, (opened.acts.1.0, ap meaning_of (line_continues s.actions.rest.now rest some later.1) ∙ opened.acts.1.1));
        count = opened.count;
        flow = opened.flow;
        checked = opened.checked;
        sessions = opened.sessions;
        replies = opened.replies;
      },
      refl,
      refl,
      refl,
      refl,
      later.1,
    ) where
      more : (k l : List ℕ) → k ≢ [] → k ++ l ≢ []
      more [] l some = absurd (some refl)
      more (b ∷ k) l some = λ none. cc
