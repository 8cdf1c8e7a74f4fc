-- The words of a line of a script, and what a word spells. A line and a word are lists of bytes.
use Rattle.std.specs.Prelude.{◌==◌, ◌||◌, ℕ, Bool, List, [], ◌∷◌, length, nat_lt}
use Rattle.std.specs.Prelude.{Option, Some, None, is_none, option_and_then, option_map, unwrap_or, if◌then◌else◌}
use Rattle.std.specs.Borrow.{Bor}
use Rattle.std.specs.List.{after_first, before_first, list_any, position_or_len, slice_split}

-- the two parts around the first byte c
abbrev pub cut_at : ℕ → List ℕ → Option (List ℕ × List ℕ)
cut_at c text = if nat_lt (position_or_len (λ b. b == c) text) (length text)
    then Some (before_first (λ b. b == c) text, after_first (λ b. b == c) text) else None

-- the parts that two borrows show
abbrev pub parts_shown : Option (Bor (List ℕ) × Bor (List ℕ)) → Option (List ℕ × List ℕ)
parts_shown = option_map (λ p. (p.0.now, p.1.now))

-- what comes before the first space, and what comes after it; where there is none, the whole text and nothing
abbrev pub first_and_rest : List ℕ → List ℕ × List ℕ
first_and_rest text = unwrap_or (cut_at 32 text) (text, [])

abbrev pub first_word : List ℕ → List ℕ
first_word text = (first_and_rest text).0

abbrev pub rest_of : List ℕ → List ℕ
rest_of text = (first_and_rest text).1

-- the parts of a text between its spaces
abbrev pub words_of : List ℕ → List (List ℕ)
words_of text = slice_split (λ b. b == 32) text

-- the words of a text that may be empty
abbrev pub further_words : List ℕ → List (List ℕ)
further_words [] = []
further_words (b ∷ bs) = words_of (b ∷ bs)

-- a tab or a carriage return
abbrev pub is_control : ℕ → Bool
is_control b = b == 9 || b == 13

abbrev pub has_control : List ℕ → Bool
has_control line = list_any is_control line

-- the line is empty, or has a leading, trailing or doubled space
abbrev pub has_empty_word : List ℕ → Bool
has_empty_word line = list_any (λ w. length w == 0) (words_of line)

-- what words spell, where each of them spells something
abbrev pub all_spelled : {A : Type 0} → (List ℕ → Option A) → List (List ℕ) → Option (List A)
all_spelled spelled [] = Some []
all_spelled spelled (w ∷ ws) =
    option_and_then (λ x. option_map (λ xs. x ∷ xs) (all_spelled spelled ws)) (spelled w)

-- a word among these spells nothing
abbrev pub has_bad : {A : Type 0} → (List ℕ → Option A) → List (List ℕ) → Bool
has_bad spelled words = list_any (λ w. is_none (spelled w)) words
