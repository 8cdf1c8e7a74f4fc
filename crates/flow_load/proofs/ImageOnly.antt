-- The image of a checked flow is read as that flow.
-- for: reader::load
use Rattle.std.proofs.Common.{◌≡◌, ℕ, ◌+◌, List, [], ◌∷◌, None, Ok, refl, inl, inr}
use Rattle.std.proofs.lemmas.Bool.{cases_Bool}
use Rattle.flow_model.specs.declared.flow.Flow as flow
use Rattle.flow_model.specs.declared.numbering.Part.{Part}
use Rattle.flow_model.specs.Check.{IsChecked}
use Rattle.flow_model.specs.Places.{parts_of}
use Rattle.flow_load.specs.Image.{image_of, lines_of, version_of}
use Rattle.flow_load.specs.Load.{first_recovering, misversioned, load_of}
use Rattle.flow_load.proofs.LinesRead.{lines_again}
use Rattle.flow_load.proofs.FlowLines.{flow_again}
use Rattle.flow_load.proofs.ImageLimits.{within_limits_of}

version_again : (at : ℕ) (parts : List Part) → misversioned (version_of parts) (first_recovering at parts) ≡ None
version_again at [] = refl
version_again at (p ∷ ps) =
    elim (cases_Bool p.kind.recovers) [
      | inl recovers ↦ rw recovers refl
      | inr plain ↦ rw plain (version_again (at + 1) ps)
    ]

pub image_read : (f : flow.Flow) → IsChecked f → load_of (image_of f) ≡ Ok f
unfolding load_of image_of
image_read f c = rw (lines_again (lines_of f) (within_limits_of f c), version_again 2 (parts_of f), flow_again f c, c) refl
