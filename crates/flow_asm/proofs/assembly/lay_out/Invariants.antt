use Rattle.std.proofs.Common.{◌≡◌, take}
use Rattle.flow_asm.specs.Emit.{all_steps}
use Rattle.flow_asm.specs.Steps.{starts_from}
use Rattle.flow_asm.proofs.assembly.lay_out.Given as goal

abbrev pub invariant-loop-group : goal.invariant-loop-group
invariant-loop-group l = record {
  starts : l.starts.items ≡ starts_from l.flow 0 (take l.group-index l.group-items);
  steps : l.steps.items ≡ all_steps l.parts (take l.group-index l.group-items);
  groups : l.group-items ≡ l.flow.groups;
}
