use Rattle.std.proofs.Common.{◌∙◌, ◌+◌, sym, ap, drop, get_or}
use Rattle.std.specs.List.{flat_map}
use Rattle.std.proofs.lemmas.List.{drop_more}
use Rattle.flow_model.specs.declared.flow.Group.{Group}
use Rattle.flow_model.specs.Places.{parts_from}
use Rattle.flow_asm.proofs.numbering.number_groups.Goals as goal
use Rattle.flow_model.proofs.Parts.{parts_from-append}

pub loop-group-preserved : goal.loop-group-preserved
loop-group-preserved c =
    let rest = flat_map (λ (g : Group). g.entries) (drop (c.loop-group.group-index + 1) c.args.groups.now) in
    record {
      parts =
          ap (λ ps. parts_from ps rest) (c.in_ok-number_entries.ensures.parts ∙ ap (parts_from c.loop-group.parts.items)
          (c.as_slice.ensures ∙ ap (λ (g : Group). g.entries) c.group-item.is))
          ∙ sym (parts_from-append c.loop-group.parts.items (get_or c.args.groups.now c.loop-group.group-index c.group-item.result).entries rest)
          ∙ sym (ap (λ gs. parts_from c.loop-group.parts.items (flat_map (λ (g : Group). g.entries) gs))
          (drop_more c.args.groups.now c.loop-group.group-index c.group-item.result c.loop-group-test.true))
          ∙ c.loop-group.invariant.parts;
      numbers = c.in_ok-number_entries.ensures.numbers;
    }
