use Rattle.std.proofs.Common.{◌≡◌, ◌∙◌, List, ℕ, ap, subst, ◌++◌, refl}
use Rattle.std.proofs.lemmas.Result.{err_from_is_err_and}
use Rattle.sw_frame.specs.Feeds.{messages}
use Rattle.dialect_frame.specs.Stream.{Framing, Stream}
use Rattle.dialect_frame.proofs.Frames.{IsHeld-after, framed-not-bad}
use Rattle.dialect_frame.proofs.framer.Framer.take.Goals as goal

pub returns-in_err-found : goal.returns-in_err-found
returns-in_err-found c =
    let p = err_from_is_err_and c.from_residual.result c.from_residual.ensures.1 in
    let g = c.args.self.now in
    rw (p.1, p.2) ((c.requires.open, refl, framed-not-bad g.form g.has.pending c.args.piece.now c.args.missing _ c.requires.whole), refl)

pub invariant_of-self : goal.invariant_of-self
invariant_of-self c =
    IsHeld-after c.self.inside.form (c.deref.result.now ++ c.args.piece.now) (messages c.in_ok-found.found.messages.items) c.in_ok-found.found.held.items
    c.in_ok-found.found.failed c.in_ok-found.ensures

pub returns : goal.returns
returns c =
    let g = c.args.self.now in
    let same : c.deref.result.now ≡ g.has.pending = c.deref.ensures.value ∙ ap (λ (s : Framing). s.has.pending) c.self.view_is in
    let form : c.self.inside.form ≡ g.form = ap (λ (s : Framing). s.form) c.self.view_is in
    let found = c.in_ok-found.found in
    let read = subst (λ (z : List ℕ). Stream c.self.inside.form (z ++ c.args.piece.now) (messages found.messages.items)
    (record { pending = found.held.items; failed = found.failed })) same c.in_ok-found.ensures in (
      (
        c.requires.open,
        subst (λ f. Stream f (g.has.pending ++ c.args.piece.now) (messages found.messages.items)
            (record { pending = found.held.items; failed = found.failed })) form read,
        framed-not-bad g.form g.has.pending c.args.piece.now c.args.missing _ c.requires.whole,
      ),
      form,
    )
