-- Words that are read as a list, each of them spelling one item, and looked over again where that fails.
-- for: group::read_entries, group::read_flow, group::spelled_entries, puts::read_puts
use Rattle.std.specs.Borrow.{Bor}
use Rattle.std.proofs.Common.{◌≡◌, ◌≢◌, ◌∙◌, ◌||◌, ℕ, ◌+◌, ◌<◌, Bool, true, false, List, [], ◌∷◌, ◌++◌, length, drop, get_or, map, Option, None, Some, Err}
use Rattle.std.proofs.Common.{is_none, refl, sym, ap, append_assoc, option_map, option_and_then}
use Rattle.std.proofs.lemmas.List.{drop_more}
use Rattle.cli_script.specs.Forms.{flow_line, group_line, or_refuse}
use Rattle.cli_script.specs.Grammar.{Answers}
use Rattle.cli_script.specs.Groups.{entries_spelled}
use Rattle.cli_script.specs.Words.{all_spelled, first_word, further_words, has_bad, rest_of, words_of}
use Rattle.cli_script.specs.declared.error.LineError.{LineError}
use Rattle.cli_script.specs.declared.error.LineError.TheVariants.{OutOfMemory}

module _ {A : Type 0} where
  abbrev before : Option (List A) → Option A → Option (List A)
  before rest e = option_and_then (λ x. option_map (λ es. x ∷ es) rest) e

  one_bad : (e : Option A) (rest : Option (List A)) (b : Bool) → (b ≡ true → rest ≡ None)
      → (is_none e || b) ≡ true → before rest e ≡ None
  one_bad None rest b later bad = refl
  one_bad (Some e) rest b later bad = rw (later bad) refl

  all_good : (e : Option A) (rest : Option (List A)) (b : Bool) → (b ≡ false → rest ≢ None)
      → (is_none e || b) ≡ false → before rest e ≢ None
  all_good None rest b later good = λ none. cc
  all_good (Some e) None b later good = λ none. later good refl
  all_good (Some e) (Some es) b later good = λ none. cc

  bad_words : (spelled : List ℕ → Option A) (words : List (List ℕ)) → has_bad spelled words ≡ true
      → all_spelled spelled words ≡ None
  bad_words spelled [] bad = cc
  bad_words spelled (w ∷ ws) bad = one_bad (spelled w) _ _ (bad_words spelled ws) bad

  good_words : (spelled : List ℕ → Option A) (words : List (List ℕ)) → has_bad spelled words ≡ false
      → all_spelled spelled words ≢ None
  good_words spelled [] good = λ none. cc
  good_words spelled (w ∷ ws) good = all_good (spelled w) _ _ (good_words spelled ws) good

  memory_answers : (e : LineError) (es : Option (List A)) → es ≢ None → Answers (or_refuse e es) (Err OutOfMemory)
  memory_answers e None some = absurd (some refl)
  memory_answers e (Some es) some = refl

  -- where a word spells nothing, and where each spells something
  pub bad_refused : (spelled : List ℕ → Option A) (e : LineError) (words : List (List ℕ))
      → has_bad spelled words ≡ true → Answers (or_refuse e (all_spelled spelled words)) (Err e)
  bad_refused spelled e words bad = rw (bad_words spelled words bad) refl

  pub good_refused : (spelled : List ℕ → Option A) (e : LineError) (words : List (List ℕ))
      → has_bad spelled words ≡ false → Answers (or_refuse e (all_spelled spelled words)) (Err OutOfMemory)
  good_refused spelled e words good = memory_answers e _ (good_words spelled words good)

  regroup : (front : List A) (x : A) (rest : Option (List A))
      → option_map (λ es. front ++ es) (option_map (λ es. x ∷ es) rest) ≡ option_map (λ es. (front ++ x ∷ []) ++ es) rest
  regroup front x None = refl
  regroup front x (Some es) = ap Some (sym (append_assoc front (x ∷ []) es))

  -- one more word, as a loop reads it
  pub spelled_more : (spelled : List ℕ → Option A) (front new : List A) (words : List (Bor (List ℕ))) (i : ℕ) (d : Bor (List ℕ)) (x : A)
      (total : Option (List A))
      → new ≡ front ++ x ∷ [] → i < length words → Some x ≡ spelled (get_or words i d).now
      → option_map (λ es. front ++ es) (all_spelled spelled (map (λ w. w.now) (drop i words))) ≡ total
      → option_map (λ es. new ++ es) (all_spelled spelled (map (λ w. w.now) (drop (i + 1) words))) ≡ total
  spelled_more spelled front new words i d x total grows lt is so_far =
      rw grows (sym (regroup front x (all_spelled spelled (map (λ w. w.now) (drop (i + 1) words)))) ∙ rw (drop_more words i d lt, ← is) at so_far)

pub further_any : (text : List ℕ) → text ≢ [] → further_words text ≡ words_of text
further_any [] some = absurd (some refl)
further_any (b ∷ bs) some = refl

-- a group that has a name
pub some_group : (rest : List ℕ) → rest ≢ []
    → flow_line rest ≡ group_line (first_word rest) (entries_spelled (further_words (rest_of rest)))
some_group [] some = absurd (some refl)
some_group (b ∷ bs) some = refl
