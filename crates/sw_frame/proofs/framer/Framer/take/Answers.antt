use Rattle.std.proofs.Common.{◌≡◌, ◌∙◌, List, ℕ, ap, subst, ◌++◌, refl}
use Rattle.std.proofs.lemmas.Result.{err_from_is_err_and}
use Rattle.sw_frame.specs.Stream.{State, Stream}
use Rattle.sw_frame.specs.Feeds.{messages}
use Rattle.sw_frame.proofs.Frames.{IsHeld-after, framed-not-bad}
use Rattle.sw_frame.proofs.framer.Framer.take.Goals as goal

pub returns-in_err-found : goal.returns-in_err-found
returns-in_err-found c =
    let p = err_from_is_err_and c.from_residual.result c.from_residual.ensures.1 in
    rw (p.1, p.2) (c.requires.open, refl, framed-not-bad c.args.self.now.pending c.args.piece.now c.args.missing _ c.requires.whole)

pub invariant_of-self : goal.invariant_of-self
invariant_of-self c =
    IsHeld-after (c.deref.result.now ++ c.args.piece.now) (messages c.in_ok-found.found.messages.items) c.in_ok-found.found.held.items
    c.in_ok-found.found.failed c.in_ok-found.ensures

pub returns : goal.returns
returns c =
    let same : c.deref.result.now ≡ c.args.self.now.pending = c.deref.ensures.value ∙ ap (λ (s : State). s.pending) c.self.view_is in (
      c.requires.open,
      subst (λ (z : List ℕ). Stream (z ++ c.args.piece.now) (messages c.in_ok-found.found.messages.items)
          (record { pending = c.in_ok-found.found.held.items; failed = c.in_ok-found.found.failed })) same c.in_ok-found.ensures,
      framed-not-bad c.args.self.now.pending c.args.piece.now c.args.missing _ c.requires.whole,
    )
