-- Bounds within which the numbers of lines and steps fit.
use Rattle.std.specs.Prelude.{ℕ, ◌<◌, ◌≤◌, length}
use Rattle.flow_load.specs.declared.groups.StepRole.{StepRole}
use Rattle.flow_load.specs.declared.groups.StepRole.TheVariants.{Calls, Picks, Returns}
use Rattle.flow_load.specs.declared.lines.Lines.{Lines}

-- a call is one of the first n participants
abbrev pub IsCallBelow : ℕ → StepRole → Type 0
IsCallBelow n (Calls p) = p < n
IsCallBelow n Picks = Unit {0}
IsCallBelow n Returns = Unit {0}

-- lines within the limits of an image
pub record IsSmall (l : Lines) : Type 0 where
  pub parts : length l.parts ≤ 16384
  pub starts : length l.starts ≤ 256
  pub steps : length l.steps ≤ 33024
