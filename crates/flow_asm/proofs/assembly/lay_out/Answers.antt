use Rattle.std.proofs.Common.{◌∙◌, ap, sym, ◌++◌, ◌∷◌, []}
use Rattle.std.proofs.lemmas.List.{take_all}
use Rattle.flow_model.specs.Places.{parts_of}
use Rattle.flow_asm.specs.Emit.{all_steps}
use Rattle.flow_asm.proofs.AssemblyListing.{starts_more, steps_more, map_groups}
use Rattle.flow_asm.proofs.assembly.lay_out.Goals as goal

pub loop-group-preserved : goal.loop-group-preserved
loop-group-preserved c = record {
  starts = c.in_ok-push.ensures.items ∙ ap (λ n. c.loop-group.starts.items ++ record { name = n; first = c.len.result } ∷ []) c.in_ok-name.ensures
      ∙ starts_more c.args.flow.now c.as_slice-group-items.result.now c.loop-group.group-index c.len.result c.group-item.result c.args.parts.now
      c.loop-group.starts.items c.loop-group.steps.items c.as_slice-group-items.ensures c.requires.parts c.loop-group-test.true c.group-item.is
      c.loop-group.invariant.starts c.loop-group.invariant.steps (c.len.ensures ∙ c.loop-group.steps.ok.0);
  steps = steps_more c.as_slice-group-items.result.now c.loop-group.group-index c.group-item.result c.args.parts.now c.loop-group.steps.items
      c.emit_group.new.steps.items c.loop-group-test.true c.group-item.is c.loop-group.invariant.steps c.in_ok-emit_group.ensures;
  groups = c.as_slice-group-items.ensures;
}

pub returns-clause-steps : goal.returns-clause-steps
returns-clause-steps c =
    c.loop-group.invariant.steps ∙ ap (all_steps c.args.parts.now) (take_all c.loop-group.group-index c.as_slice-group-items.result.now
    c.loop-group-test.false ∙ c.as_slice-group-items.ensures) ∙ ap (λ ps. all_steps ps c.args.flow.now.groups) c.requires.parts
    ∙ sym (map_groups (parts_of c.args.flow.now) 0 c.args.flow.now.groups)
