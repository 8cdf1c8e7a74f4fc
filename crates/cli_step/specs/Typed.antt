-- What is typed at a prompt, before it is read as a line of a script.
use Rattle.std.specs.Prelude.{ℕ, ◌==◌, not, List, [], ◌∷◌, ◌++◌, length, drop, filter, codes, if◌then◌else◌}
use Rattle.std.specs.List.{flat_map, slice_split}
use Rattle.std.specs.Str.{bytes_eq}
use Rattle.cli_script.specs.Scripts.{line_of}
use Rattle.cli_step.specs.declared.typed.Typed.{Typed}
use Rattle.cli_step.specs.declared.typed.Typed.TheVariants.{Nothing, Quit, Line}

-- the words among the parts of a line: those that are not empty
abbrev pub words_among : List (List ℕ) → List (List ℕ)
words_among parts = filter (λ p. not (length p == 0)) parts

-- words, each after a space
abbrev pub spaced : List (List ℕ) → List ℕ
spaced parts = flat_map (λ word. 32 ∷ word) (words_among parts)

-- the line with one space between its words
unfoldable pub tidied : List ℕ → List ℕ
tidied line = drop 1 (spaced (slice_split (λ b. b == 32) (line_of line)))

-- the line that an empty one repeats, if there is one
abbrev pub again : List ℕ → Typed
again [] = Nothing
again (b ∷ bs) = Line

-- what a line is, by the one before it: # begins a comment, and `quit` ends the session
abbrev pub typed_by : List ℕ → List ℕ → Typed
typed_by last [] = again last
typed_by last (b ∷ bs) = if b == 35 then Nothing else if bytes_eq (b ∷ bs) (codes "quit") then Quit else Line

-- the same of a line as it was read, whatever its spaces
abbrev pub typed : List ℕ → List ℕ → Typed
typed last read = typed_by last (tidied read)

-- a line that was typed is kept, and an empty one repeats it
abbrev pub kept_by : List ℕ → List ℕ → List ℕ
kept_by last [] = last
kept_by last (b ∷ bs) = (b ∷ bs) ++ 10 ∷ []

-- by what was typed: only a line changes what is kept
abbrev pub kept_if : Typed → List ℕ → List ℕ → List ℕ
kept_if Nothing last text = last
kept_if Quit last text = last
kept_if Line last text = kept_by last text

-- the line that is kept after this one
abbrev pub kept : List ℕ → List ℕ → List ℕ
kept last read = kept_if (typed last read) last (tidied read)
