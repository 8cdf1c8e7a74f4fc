use Rattle.std.proofs.Common.{List, ℕ, refl, subst}
use Rattle.cli_encode.specs.Frames.{AddsFrame}
use Rattle.cli_encode.proofs.Points.{closes}
use Rattle.cli_encode.proofs.encoder.Encoder.close.Goals as goal

pub returns-in_ok-push_frame-clause-closed : goal.returns-in_ok-push_frame-clause-closed
returns-in_ok-push_frame-clause-closed c p h =
    closes p _ _ c.in-Open.message h c.in-Open.is
    (subst (λ (l : List ℕ). AddsFrame c.args.self.now.frames.items l c.in-Open.message c.push_frame.new.frames.items) c.deref.ensures.value
    c.in_ok-push_frame.ensures)
    refl refl refl refl
