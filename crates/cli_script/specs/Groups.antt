-- The entries of a group, each a word NAME or NAME:MARKS.
use Rattle.std.specs.Prelude.{ℕ, List, [], ◌∷◌, codes, Option, Some, None, option_map, if◌then◌else◌}
use Rattle.std.specs.Str.{bytes_eq}
use Rattle.sw_participant.specs.declared.kind.Kind.{Kind}
use Rattle.sw_participant.specs.declared.kind.TheConstants.Kind as kind
use Rattle.flow_model.specs.declared.flow.Entry.{Entry}
use Rattle.cli_script.specs.Words.{all_spelled, cut_at}

-- the marks of an entry: `s` a selector, `a` abort-aware, `r` recovering
abbrev pub marks : List (List ℕ × Kind)
marks = (codes "s", kind.SELECTOR)
    ∷ (codes "a", kind.ABORT_AWARE)
    ∷ (codes "sa", kind.SELECTOR_ABORT_AWARE)
    ∷ (codes "r", kind.RECOVERING)
    ∷ (codes "sr", kind.SELECTOR_RECOVERING)
    ∷ (codes "ar", kind.ABORT_AWARE_RECOVERING)
    ∷ (codes "sar", kind.SELECTOR_ABORT_AWARE_RECOVERING)
    ∷ []

-- the kind beside this word
abbrev pub kind_at : List (List ℕ × Kind) → List ℕ → Option Kind
kind_at [] word = None
kind_at (m ∷ ms) word = if bytes_eq word m.0 then Some m.1 else kind_at ms word

abbrev pub kind_marked : List ℕ → Option Kind
kind_marked word = kind_at marks word

abbrev pub entry : List ℕ → Kind → Entry
entry name kind = record { participant = name; kind = kind }

-- by the parts of the word at its colon; a word without one has no marks
abbrev pub entry_cut : List ℕ → Option (List ℕ × List ℕ) → Option Entry
entry_cut word None = Some (entry word kind.PLAIN)
entry_cut word (Some p) = option_map (entry p.0) (kind_marked p.1)

abbrev pub entry_spelled : List ℕ → Option Entry
entry_spelled word = entry_cut word (cut_at 58 word)

-- the entries that words spell, where each of them spells one
abbrev pub entries_spelled : List (List ℕ) → Option (List Entry)
entries_spelled = all_spelled entry_spelled
