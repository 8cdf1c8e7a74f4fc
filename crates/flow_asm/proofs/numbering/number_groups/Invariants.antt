use Rattle.std.proofs.Common.{◌≡◌, drop}
use Rattle.std.specs.List.{flat_map}
use Rattle.flow_model.specs.declared.flow.Group.{Group}
use Rattle.flow_model.specs.Places.{parts_from}
use Rattle.flow_asm.specs.Numbering.{IsNumbering}
use Rattle.flow_asm.proofs.numbering.number_groups.Given as goal

abbrev pub invariant-loop-group : goal.invariant-loop-group
invariant-loop-group l = record {
  parts : parts_from l.parts.items (flat_map (λ (g : Group). g.entries) (drop l.group-index l.groups)) ≡ parts_from l.fn.parts.items
      (flat_map (λ (g : Group). g.entries) l.groups);
  numbers : IsNumbering l.parts.items l.numbers;
}
