-- The words of a line.
use Rattle.std.specs.Prelude.{ℕ, ◌+◌, ◌*◌, ◌-◌, Bool, true, false, not, ◌&&◌, ◌||◌, ◌==◌, nat_le, List, [], ◌∷◌, length, slice_index, find, Option, Some, None}
use Rattle.std.specs.Prelude.{option_map, Result, Ok, Err, if◌then◌else◌}
use Rattle.std.specs.Str.{bytes_eq}
use Rattle.sw_participant.specs.declared.kind.Kind.{Kind}
use Rattle.sw_context.specs.Names.{is_name}
use Rattle.flow_load.specs.declared.error.LoadError.{LoadError}
use Rattle.flow_load.specs.Image.{Text, kind_text}
use Rattle.flow_load.specs.Reads.{◌>>=◌, found}

-- what stands before the first such byte, and after it
abbrev pub cut : ℕ → Text → Option (Text × Text)
cut byte [] = None
cut byte (x ∷ xs) = if x == byte then Some ([], xs) else option_map (λ p. (x ∷ p.0, p.1)) (cut byte xs)

abbrev pub is_within : ℕ → ℕ → ℕ → Bool
is_within low high b = nat_le low b && nat_le b high

-- the number that n and further digits make, at most 100,000
abbrev pub value_on : ℕ → Text → Option ℕ
value_on n [] = Some n
value_on n (c ∷ cs) = if is_within 48 57 c && nat_le (10 * n + (c - 48)) 100000 then value_on (10 * n + (c - 48)) cs else None

-- not empty, and no leading zero
abbrev pub is_plain : Text → Bool
is_plain w = nat_le 1 (length w) && (length w == 1 || not (slice_index w 0 == 48))

-- a decimal number, at most 100,000
abbrev pub number : Text → Option ℕ
number w = if is_plain w then value_on 0 w else None

abbrev pub kinds : List Kind
kinds =
    record { selector = false; abort_aware = false; recovers = false }
    ∷ record { selector = true; abort_aware = false; recovers = false }
    ∷ record { selector = false; abort_aware = true; recovers = false }
    ∷ record { selector = true; abort_aware = true; recovers = false }
    ∷ record { selector = false; abort_aware = false; recovers = true }
    ∷ record { selector = true; abort_aware = false; recovers = true }
    ∷ record { selector = false; abort_aware = true; recovers = true }
    ∷ record { selector = true; abort_aware = true; recovers = true }
    ∷ []

abbrev pub is_spelled : Text → Kind → Bool
is_spelled w k = bytes_eq (kind_text k) w

-- the kind that is spelled like this
unfoldable pub kind_of : Text → Option Kind
kind_of w = find (is_spelled w) kinds

-- Each of these has the fault of the line that it stands on. The first word, and what follows the space:
abbrev pub word_at : LoadError → Text → Result (Text × Text) LoadError
word_at e text = found e (cut 32 text)

abbrev pub number_of : LoadError → Text → Result ℕ LoadError
number_of e w = found e (number w)

abbrev pub number_at : LoadError → Text → Result (ℕ × Text) LoadError
number_at e text = word_at e text >>= λ w. number_of e w.0 >>= λ n. Ok (n, w.1)

-- what follows this word
abbrev pub word_is : LoadError → Text → Text → Result Text LoadError
word_is e w text = word_at e text >>= λ x. if bytes_eq x.0 w then Ok x.1 else Err e

abbrev pub name_of : LoadError → Text → Result Text LoadError
name_of e w = if is_name w then Ok w else Err e

abbrev pub name_at : LoadError → Text → Result (Text × Text) LoadError
name_at e text = word_at e text >>= λ w. name_of e w.0 >>= λ n. Ok (n, w.1)
