-- How many steps a checked flow has.
-- for: code::Code::look
use Rattle.std.specs.List.{flat_map}
use Rattle.std.proofs.Common.{◌≡◌, ◌+◌, ◌*◌, ◌≤◌, Bool, true, false, List, [], ◌∷◌, length, ap, sym, ◌∙◌, arith, if◌then◌else◌, length-append}
use Rattle.flow_model.specs.declared.flow.Flow.{Flow}
use Rattle.flow_model.specs.declared.flow.Group.{Group}
use Rattle.flow_model.specs.declared.flow.Entry.{Entry}
use Rattle.flow_model.specs.declared.numbering.Part.{Part}
use Rattle.flow_model.specs.Check.{IsChecked}
use Rattle.flow_model.specs.Places.{entries_of, number_in, parts_of}
use Rattle.flow_model.proofs.ParticipantBounds.{few_entries, few_groups}
use Rattle.flow_asm.specs.declared.code.Step.TheVariants.{Call, Pick, Return}
use Rattle.flow_asm.specs.Emit.{all_steps, entry_steps, group_steps}
use Rattle.flow_asm.specs.Steps.{stages}
use Rattle.flow_asm.proofs.AssemblyListing.{map_groups}
use Rattle.flow_asm.proofs.Stages.{length-steps}

few_entry_steps : (parts : List Part) (e : Entry) → length (entry_steps parts e) ≤ 2
few_entry_steps parts e = by e.kind.selector
  where
    by : (b : Bool) → length (if b then Call (number_in parts e.participant) ∷ Pick (number_in parts e.participant) ∷ [] else Call
        (number_in parts e.participant) ∷ []) ≤ 2
    by true = omega arith
    by false = omega arith

few_group_steps : (parts : List Part) (es : List Entry) → length (flat_map (entry_steps parts) es) ≤ 2 * length es
few_group_steps parts [] = omega arith
few_group_steps parts (e ∷ es) = omega (
  arith,
  length-append (entry_steps parts e) (flat_map (entry_steps parts) es),
  few_entry_steps parts e,
  few_group_steps parts es,
)

few_steps : (parts : List Part) (gs : List Group) → length (all_steps parts gs) ≤ 2 * length (entries_of gs) + length gs
few_steps parts [] = omega arith
few_steps parts (x ∷ gs) =
    omega (
      arith,
      length-append (group_steps parts x) (all_steps parts gs),
      length-append (flat_map (entry_steps parts) x.entries) (Return ∷ []),
      length-append x.entries (entries_of gs),
      few_group_steps parts x.entries,
      few_steps parts gs,
    )

-- two for an entry, one for a group
pub few_all_steps : (f : Flow) → IsChecked f → length (all_steps (parts_of f) f.groups) ≤ 33024
few_all_steps f h = omega (arith, few_steps (parts_of f) f.groups, few_entries f h, few_groups f h)

pub few_stages : (f : Flow) → IsChecked f → length (stages f) ≤ 33024
few_stages f h =
    let counted : length (stages f) ≡ length (all_steps (parts_of f) f.groups) = sym (length-steps f) ∙ ap length (map_groups (parts_of f) 0 f.groups) in
    omega (arith, counted, few_all_steps f h)
