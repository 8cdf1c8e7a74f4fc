-- Numbered steps, seen as the flow that they were assembled from.
use Rattle.std.specs.Prelude.{◌≡◌, List, [], ◌∷◌, ◌++◌, map, drop, Option, Some, None, slice_get}
use Rattle.flow_model.specs.declared.flow.Flow.{Flow}
use Rattle.flow_model.specs.declared.flow.Group.{Group}
use Rattle.flow_model.specs.declared.flow.Entry.{Entry}
use Rattle.flow_model.specs.declared.numbering.Part.{Part}
use Rattle.flow_model.specs.Check.{IsChecked}
use Rattle.flow_model.specs.Places.{parts_of}
use Rattle.flow_asm.specs.declared.code.Step.{Step}
use Rattle.flow_asm.specs.declared.code.Step.TheVariants.{Call, Pick, Return}
use Rattle.flow_asm.specs.declared.code.GroupStart.{GroupStart}
use Rattle.flow_asm.specs.declared.code.Code.TheInside.{Inside}
use Rattle.flow_asm.specs.Steps.{starts_of, steps_of}

abbrev pub entry_of : Option Part → List Entry
entry_of None = []
entry_of (Some p) = record { participant = p.name; kind = p.kind } ∷ []

-- the participant's entry joins the entries
abbrev pub AddsEntry : (old new : List Entry) → Option Part → Type 0
AddsEntry old new part = new ≡ old ++ entry_of part

-- the entries whose calls stand before the next return
abbrev pub entries_from : List Part → List Step → List Entry
entries_from parts [] = []
entries_from parts (Return ∷ xs) = []
entries_from parts (Pick p ∷ xs) = entries_from parts xs
entries_from parts (Call p ∷ xs) = entry_of (slice_get parts p) ++ entries_from parts xs

-- a group has the entries from its first step to its return
abbrev pub group_of : List Part → List Step → GroupStart → Group
group_of parts steps s = record { name = s.name; entries = entries_from parts (drop s.first steps) }

-- the flow that an assembled one represents
abbrev pub listed : Inside → Flow
listed a = record { retries = a.retries; groups = map (group_of a.parts a.steps) a.starts }

-- the steps, starts and participants are those of the listed flow, which is a checked one
pub record IsAssembly (a : Inside) : Type 0 where
  pub steps : a.steps ≡ steps_of (listed a)
  pub starts : a.starts ≡ starts_of (listed a)
  pub parts : a.parts ≡ parts_of (listed a)
  pub checked : IsChecked (listed a)
