-- The flow whose image some bytes are, or their first fault.
use Rattle.std.specs.Prelude.{ℕ, ◌+◌, ◌==◌, Bool, List, [], ◌∷◌, Option, Some, None, Result, Ok, Err, if◌then◌else◌}
use Rattle.flow_model.specs.declared.flow.Flow as flow
use Rattle.flow_model.specs.declared.numbering.Part.{Part}
use Rattle.flow_model.specs.declared.error.FlowError.{FlowError}
use Rattle.flow_model.specs.Check.{first_fault}
use Rattle.flow_load.specs.declared.error.LoadError.{LoadError}
use Rattle.flow_load.specs.declared.error.LoadError.TheVariants.{BadHeader, BadLine, Flow}
use Rattle.flow_load.specs.declared.lines.Lines.{Lines}
use Rattle.flow_load.specs.Image.{Text}
use Rattle.flow_load.specs.Reads.{◌>>=◌, fault_of}
use Rattle.sw_base.specs.Refusals.{refused}
use Rattle.flow_load.specs.Forms.{lines_in}
use Rattle.flow_load.specs.Groups.{flow_in}

-- the line of the first item with this mark, when the first item is on that line
abbrev pub first_marked : {A : Type 0} → (A → Bool) → ℕ → List A → Option ℕ
first_marked mark at [] = None
first_marked mark at (x ∷ xs) = if mark x then Some at else first_marked mark (at + 1) xs

-- the line of the first participant that recovers, when the first participant is on that line
abbrev pub first_recovering : ℕ → List Part → Option ℕ
first_recovering at parts = first_marked (λ p. p.kind.recovers) at parts

-- the version is 1 if no participant recovers, and otherwise 2
abbrev pub misversioned : ℕ → Option ℕ → Option LoadError
misversioned version None = if version == 1 then None else Some BadHeader
misversioned version (Some at) = if version == 2 then None else Some (BadLine at)

abbrev pub version_fault : Lines → Option LoadError
version_fault l = misversioned l.version (first_recovering 2 l.parts)

-- The first fault of a line by itself, otherwise that of the version: what is reported without memory.
abbrev pub line_fault : Text → Option LoadError
line_fault bytes = fault_of (lines_in bytes >>= λ l. refused (version_fault l))

-- a flow, unless its check refuses it
abbrev pub sound : flow.Flow → Option FlowError → Result flow.Flow LoadError
sound f None = Ok f
sound f (Some e) = Err (Flow e)

-- Each line by itself, then the version, then the lines together, then the flow: the first fault is
-- the answer.
unfoldable pub load_of : Text → Result flow.Flow LoadError
load_of bytes = do
  l ← lines_in bytes
  versioned ← refused (version_fault l)
  f ← flow_in l
  sound f (first_fault f)
