use Rattle.std.proofs.Common.{◌≡◌, ◌++◌, take}
use Rattle.std.specs.List.{flat_map}
use Rattle.flow_asm.specs.Emit.{entry_steps}
use Rattle.flow_asm.proofs.assembly.emit_group.Given as goal

abbrev pub invariant-loop-entry : goal.invariant-loop-entry
invariant-loop-entry l = l.steps.items ≡ l.fn.steps.items ++ flat_map (entry_steps l.parts) (take l.entry-index l.entry-items)
