use Rattle.std.proofs.Common.{◌≡◌, ap, subst, inr, List, ℕ, ◌++◌, ◌+◌, ◌-◌, ◌<◌, length, arith}
use Rattle.std.proofs.lemmas.List.{length-append}
use Rattle.dialect_frame.specs.Feeds.{MakesWhole}
use Rattle.dialect_frame.specs.Forms.{IsLengthOf, IsPartial, lead_in, start}
use Rattle.dialect_frame.specs.Stream.{Framing}
use Rattle.dialect_frame.proofs.Frames.{first-framed, held-below, open-partial}
use Rattle.dialect_frame.proofs.framer.Framer.advance.Goals as goal

pub hold-requires-then-piece-missing-clause-partial : goal.hold-requires-then-piece-missing-clause-partial
hold-requires-then-piece-missing-clause-partial c =
    let f = c.self.inside.form in
    let held = c.self.inside.held.items in
    let piece = c.args.piece.now in
    let n = c.in-Message.length in
    let is = subst (λ (z : List ℕ). IsLengthOf f (lead_in f (z ++ piece)) n) c.deref.ensures.value c.in-Message.ensures.1 in
    let all = length-append held piece in
    let same = ap length c.deref.ensures.value in
    let long : length (held ++ piece) < start f + n =
    omega (arith, all, same, c.if-piece-missing.true, c.start.ensures.result, c.from.ensures, c.len.ensures, c.deref.ensures.len) in
    subst (λ (g : Framing). IsPartial g.form (g.has.pending ++ piece)) c.self.view_is (inr (n, is, long))

pub take-requires-clause-whole : goal.take-requires-clause-whole
take-requires-clause-whole c =
    let f = c.self.inside.form in
    let held = c.self.inside.held.items in
    let piece = c.args.piece.now in
    let n = c.in-Message.length in
    let is = subst (λ (z : List ℕ). IsLengthOf f (lead_in f (z ++ piece)) n) c.deref.ensures.value c.in-Message.ensures.1 in
    let partial = open-partial f c.self.inside.failed held c.self.invariant c.if-self.false in
    let below = held-below f held piece n partial is in
    let k = c.start.result + c.from.result - c.len.result in
    let whole : length held + k ≡ start f + n =
    omega (arith, below, c.start.ensures.result, c.from.ensures, c.len.ensures, c.deref.ensures.len, ap length c.deref.ensures.value) in
    let framed = first-framed f held piece n k whole c.if-piece-missing.false is in
    subst (λ (g : Framing). MakesWhole g.form g.has.pending piece k) c.self.view_is framed
