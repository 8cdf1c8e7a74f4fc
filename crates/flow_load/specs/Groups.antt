-- The flow that the lines of an image lay out, or the first line that does not fit those before it.
use Rattle.std.specs.Prelude.{ℕ, ◌+◌, ◌-◌, max, ◌&&◌, ◌==◌, nat_le, nat_lt, List, [], ◌∷◌, ◌++◌, length, Option, Some, None, option_map, slice_get, Result, Ok}
use Rattle.std.specs.Prelude.{Err, if◌then◌else◌}
use Rattle.flow_model.specs.declared.flow.Flow.{Flow}
use Rattle.flow_model.specs.declared.flow.Group.{Group}
use Rattle.flow_model.specs.declared.flow.Entry.{Entry}
use Rattle.flow_model.specs.declared.numbering.Part.{Part}
use Rattle.flow_model.specs.Places.{number_in}
use Rattle.flow_asm.specs.declared.code.GroupStart.{GroupStart}
use Rattle.flow_asm.specs.declared.code.Step.{Step}
use Rattle.flow_asm.specs.declared.code.Step.TheVariants.{Call, Pick, Return}
use Rattle.flow_asm.specs.Listing.{entry_of}
use Rattle.flow_load.specs.declared.error.LoadError.{LoadError}
use Rattle.flow_load.specs.declared.error.LoadError.TheVariants.{BadTarget, NoReturn}
use Rattle.flow_load.specs.declared.lines.Lines.{Lines}
use Rattle.flow_load.specs.declared.groups.GroupRead.{GroupRead}
use Rattle.flow_load.specs.declared.groups.GroupsRead.{GroupsRead}
use Rattle.flow_load.specs.declared.groups.StepRole.{StepRole}
use Rattle.flow_load.specs.declared.groups.StepRole.TheVariants.{Calls, Picks, Returns}
use Rattle.flow_load.specs.Reads.{◌>>=◌}
use Rattle.sw_base.specs.Refusals.{refused}

-- the number of the first participant, from number n on, whose name one of a lower number has
abbrev pub double_from : List Part → ℕ → List Part → Option ℕ
double_from parts n [] = None
double_from parts n (p ∷ ps) = if nat_lt (number_in parts p.name) n then Some n else double_from parts (n + 1) ps

-- the participants' lines begin with line 2
abbrev pub double_fault : List Part → Option LoadError
double_fault parts = option_map (λ n. BadTarget (2 + n)) (double_from parts 0 parts)

-- the pick that has to follow a call
abbrev pub wanted : ℕ → Option Part → Option ℕ
wanted p None = None
wanted p (Some x) = if x.kind.selector then Some p else None

-- No step stands on that line: the group has no return, or the call on the line before has no pick.
abbrev pub cut_off : ℕ → ℕ → Option ℕ → LoadError
cut_off g here None = NoReturn g
cut_off g here (Some p) = BadTarget (here - 1)

-- What is read of a group: its entries, the number of the next step, how many participants were seen
-- so far, and the steps that are left.
pub record Walk : Type 0 where
  pub entries : List Entry
  pub at : ℕ
  pub seen : ℕ
  pub rest : List Step

abbrev pub walk_of : GroupRead → Walk
walk_of w = record { entries = w.entries.items; at = w.left.at; seen = w.left.seen; rest = w.left.steps.now }

-- these entries stand before those that were read
abbrev pub with_entries : List Entry → Walk → Walk
with_entries es w = record w { entries = es ++ w.entries }

-- the same of several groups
pub record Walks : Type 0 where
  pub groups : List Group
  pub at : ℕ
  pub seen : ℕ
  pub rest : List Step

abbrev pub walks_of : GroupsRead → Walks
walks_of w = record { groups = w.groups.items; at = w.left.at; seen = w.left.seen; rest = w.left.steps.now }

abbrev pub with_groups : List Group → Walks → Walks
with_groups gs w = record w { groups = gs ++ w.groups }

module _ (parts : List Part) where
  -- What a step on that line is, by the pick that is due to the call before it, if any, and by how
  -- many participants were seen.
  abbrev pub role_of : ℕ → Option ℕ → ℕ → Step → Result StepRole LoadError
  role_of here None seen (Call p) = if nat_lt p (length parts) && nat_le p seen then Ok (Calls p) else Err (BadTarget here)
  role_of here None seen (Pick p) = Err (BadTarget here)
  role_of here None seen Return = Ok Returns
  role_of here (Some q) seen (Call p) = Err (BadTarget (here - 1))
  role_of here (Some q) seen (Pick p) = if p == q then Ok Picks else Err (BadTarget (here - 1))
  role_of here (Some q) seen Return = Err (BadTarget (here - 1))

  -- what comes of a step: the walk goes on, with a pick due and participants seen, or is done
  abbrev pub after : (Option ℕ → ℕ → Result Walk LoadError) → ℕ → ℕ → List Step → StepRole → Result Walk LoadError
  after goes_on at seen xs (Calls p) = goes_on (wanted p (slice_get parts p)) (max seen (p + 1)) >>= λ w. Ok (with_entries (entry_of (slice_get parts p)) w)
  after goes_on at seen xs Picks = goes_on None seen
  after goes_on at seen xs Returns = Ok (record { entries = []; at = at + 1; seen = seen; rest = xs })

-- the participants, and the line of step 0
module _ (parts : List Part) (line : ℕ) where
  -- group g, from step `at` on
  abbrev pub walk : ℕ → Option ℕ → ℕ → ℕ → List Step → Result Walk LoadError
  walk g select_due at seen [] = Err (cut_off g (line + at) select_due)
  walk g select_due at seen (x ∷ xs) = role_of parts (line + at) select_due seen x >>= λ t. after parts (λ o m. walk g o (at + 1) m xs) at seen xs t

  -- the groups, from group g on, which is to start with step `at`
  abbrev pub walks : ℕ → ℕ → ℕ → List Step → List GroupStart → Result Walks LoadError
  walks g at seen xs [] = Ok (record { groups = []; at = at; seen = seen; rest = xs })
  walks g at seen xs (s ∷ ss) =
      if s.first == at
      then (walk g None at seen xs >>= λ w. walks (g + 1) w.at w.seen w.rest ss >>= λ more. Ok
      (with_groups (record { name = s.name; entries = w.entries } ∷ []) more))
      else Err (BadTarget (2 + length parts + g))

  -- the first step that is left, or the first participant that was never seen
  abbrev pub end_fault : Walks → Option LoadError
  end_fault w = if nat_le 1 (length w.rest) then Some (BadTarget (line + w.at)) else
      (if nat_lt w.seen (length parts) then Some (BadTarget (2 + w.seen)) else None)

-- the line of step 0 is after those of the header, the participants and the groups
abbrev pub steps_line : Lines → ℕ
steps_line l = 2 + length l.parts + length l.starts

-- doubled participants first, then the groups with their steps, then what is left
unfoldable pub flow_in : Lines → Result Flow LoadError
flow_in l = do
  distinct ← refused (double_fault l.parts)
  w ← walks l.parts (steps_line l) 0 0 0 l.steps l.starts
  whole ← refused (end_fault l.parts (steps_line l) w)
  Ok (record { retries = l.retries; groups = w.groups })
