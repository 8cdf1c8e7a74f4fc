use Rattle.std.proofs.Common.{◌≤◌, ◌∙◌, List, length, subst, sym}
use Rattle.flow_model.specs.declared.numbering.Part.{Part}
use Rattle.flow_model.proofs.ParticipantBounds.{few_participants}
use Rattle.flow_asm.specs.Listing.{listed}
use Rattle.flow_asm.proofs.code.Code.participants.Goals as goal

pub returns-clause-few : goal.returns-clause-few
returns-clause-few c =
    subst (λ (ps : List Part). length ps ≤ 16384) (sym (c.as_slice.ensures ∙ c.self.invariant.parts))
    (few_participants (listed c.self.inside) c.self.invariant.checked)
