-- The image of a flow: its numbered steps as lines of text.
use Rattle.std.specs.Prelude.{ℕ, ◌+◌, Bool, true, false, ◌||◌, List, [], ◌∷◌, ◌++◌, length, codes, if◌then◌else◌}
use Rattle.std.specs.Fmt.{decimal}
use Rattle.sw_participant.specs.declared.kind.Kind.{Kind}
use Rattle.flow_model.specs.declared.flow.Flow.{Flow}
use Rattle.flow_model.specs.declared.numbering.Part.{Part}
use Rattle.flow_model.specs.Places.{parts_of}
use Rattle.flow_asm.specs.declared.code.GroupStart.{GroupStart}
use Rattle.flow_asm.specs.declared.code.Step.{Step}
use Rattle.flow_asm.specs.declared.code.Step.TheVariants.{Call, Pick, Return}
use Rattle.flow_asm.specs.Steps.{starts_of, steps_of}
use Rattle.flow_load.specs.declared.lines.Lines.{Lines}

-- a text as its bytes
abbrev pub Text : Type 0
Text = List ℕ

-- the marks of a participant: selector, abort_aware, recovers
abbrev pub kind_word : Bool → Bool → Bool → Text
kind_word false false false = codes "plain"
kind_word true false false = codes "select"
kind_word false true false = codes "aware"
kind_word true true false = codes "select+aware"
kind_word false false true = codes "recover"
kind_word true false true = codes "select+recover"
kind_word false true true = codes "aware+recover"
kind_word true true true = codes "select+aware+recover"

abbrev pub kind_text : Kind → Text
kind_text k = kind_word k.selector k.abort_aware k.recovers

-- words with a space between any two
abbrev pub joined : List Text → Text
joined [] = []
joined (w ∷ []) = w
joined (w ∷ v ∷ ws) = w ++ 32 ∷ joined (v ∷ ws)

-- `part N NAME KIND`
abbrev pub part_text : ℕ → Part → Text
part_text n p = joined (codes "part" ∷ decimal n ∷ p.name ∷ kind_text p.kind ∷ [])

-- `group N NAME START`
abbrev pub group_text : ℕ → GroupStart → Text
group_text n s = joined (codes "group" ∷ decimal n ∷ s.name ∷ decimal s.first ∷ [])

-- `N call P`, `N pick P` or `N return`
abbrev pub step_text : ℕ → Step → Text
step_text n (Call p) = joined (decimal n ∷ codes "call" ∷ decimal p ∷ [])
step_text n (Pick p) = joined (decimal n ∷ codes "pick" ∷ decimal p ∷ [])
step_text n Return = joined (decimal n ∷ codes "return" ∷ [])

-- a line for each item, the first of which has number n
abbrev pub lines_text : {A : Type 0} → (ℕ → A → Text) → ℕ → List A → Text
lines_text spell n [] = []
lines_text spell n (x ∷ xs) = spell n x ++ 10 ∷ lines_text spell (n + 1) xs

-- `image V R P G S`: the version, the retries, how many participants, groups and steps there are
abbrev pub header_text : ℕ → ℕ → ℕ → ℕ → ℕ → Text
header_text v r p g s = joined (codes "image" ∷ decimal v ∷ decimal r ∷ decimal p ∷ decimal g ∷ decimal s ∷ [])

-- the text whose lines say this
abbrev pub spelled : Lines → Text
spelled l =
    header_text l.version l.retries (length l.parts) (length l.starts) (length l.steps)
    ++ 10 ∷ (lines_text part_text 0 l.parts ++ (lines_text group_text 0 l.starts ++ lines_text step_text 0 l.steps))

abbrev pub has_recovering : List Part → Bool
has_recovering [] = false
has_recovering (p ∷ ps) = p.kind.recovers || has_recovering ps

-- version 2 is that of flows in which a participant recovers
abbrev pub version_of : List Part → ℕ
version_of parts = if has_recovering parts then 2 else 1

-- what the lines of a flow's image say
abbrev pub lines_of : Flow → Lines
lines_of f = record { version = version_of (parts_of f); retries = f.retries; parts = parts_of f; starts = starts_of f; steps = steps_of f }

unfoldable pub image_of : Flow → Text
image_of f = spelled (lines_of f)
