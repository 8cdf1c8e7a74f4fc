use Rattle.std.proofs.Common.{◌≡◌, map, take}
use Rattle.flow_asm.specs.Listing.{group_of}
use Rattle.flow_asm.proofs.listing.list_groups.Given as goal

abbrev pub invariant-loop-start : goal.invariant-loop-start
invariant-loop-start l = l.groups.items ≡ map (group_of l.parts l.steps) (take l.start-index l.starts)
