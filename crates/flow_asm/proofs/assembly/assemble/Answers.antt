use Rattle.std.proofs.Common.{◌∙◌, List, ap, refl}
use Rattle.std.specs.List.{flat_map}
use Rattle.flow_model.specs.declared.flow.Group.{Group}
use Rattle.flow_model.specs.Places.{parts_from}
use Rattle.flow_asm.proofs.AssemblyListing.{listed_is, is_assembly}
use Rattle.flow_asm.proofs.assembly.assemble.Goals as goal

pub invariant_of-result : goal.invariant_of-result
invariant_of-result c = is_assembly c.args.flow.now _ c.requires record {
  retries = refl;
  parts = c.new.ensures ∙ c.in_ok-number_groups.ensures.parts
      ∙ ap (λ (gs : List Group). parts_from c.new-parts.result.items (flat_map (λ (g : Group). g.entries) gs)) c.as_slice.ensures
      ∙ ap (λ ps. parts_from ps (flat_map (λ (g : Group). g.entries) c.args.flow.now.groups)) c.new-parts.ensures.items;
  starts = c.new-2.ensures ∙ c.in_ok-laid.ensures.starts;
  steps = c.new-3.ensures ∙ c.in_ok-laid.ensures.steps;
}

pub returns : goal.returns
returns c = listed_is c.args.flow.now _ c.requires record {
  retries = refl;
  parts = c.new.ensures ∙ c.in_ok-number_groups.ensures.parts
      ∙ ap (λ (gs : List Group). parts_from c.new-parts.result.items (flat_map (λ (g : Group). g.entries) gs)) c.as_slice.ensures
      ∙ ap (λ ps. parts_from ps (flat_map (λ (g : Group). g.entries) c.args.flow.now.groups)) c.new-parts.ensures.items;
  starts = c.new-2.ensures ∙ c.in_ok-laid.ensures.starts;
  steps = c.new-3.ensures ∙ c.in_ok-laid.ensures.steps;
}
