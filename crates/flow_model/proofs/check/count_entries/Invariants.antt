use Rattle.std.proofs.Common.{◌≡◌, ◌≤◌, ◌*◌, false, drop, take, length, sum_by}
use Rattle.flow_model.specs.declared.flow.Group.{Group}
use Rattle.flow_model.specs.Check.{has_large_group}
use Rattle.flow_model.proofs.check.count_entries.Given as goal

abbrev pub invariant-loop-group : goal.invariant-loop-group
invariant-loop-group l = record {
  sum : l.total ≡ sum_by (λ (g : Group). length g.entries) (take l.group-index l.groups);
  bound : l.total ≤ 256 * l.group-index;
  small : has_large_group (drop l.group-index l.groups) ≡ false;
}
