use Rattle.std.proofs.Common.{◌≡◌, ◌≤◌, length}
use Rattle.flow_asm.specs.Steps.{first_step, layout}
use Rattle.flow_asm.proofs.places.last_before.Given as goal

abbrev pub invariant-loop-group : goal.invariant-loop-group
invariant-loop-group l = record {
  first : l.last.first ≡ first_step l.code l.last.group;
  within : l.last.group ≤ length (layout l.code);
  before : l.last.first ≤ l.step;
}
