use Rattle.std.proofs.Common.{◌≡◌, ◌++◌, drop}
use Rattle.flow_asm.specs.Listing.{entries_from}
use Rattle.flow_asm.proofs.listing.list_entries.Given as goal

abbrev pub invariant-loop-step : goal.invariant-loop-step
invariant-loop-step l = l.entries.items ++ entries_from l.parts (drop l.step-index l.steps) ≡ entries_from l.parts l.steps
