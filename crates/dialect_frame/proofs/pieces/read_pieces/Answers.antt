use Rattle.std.proofs.Common.{◌≡◌, ◌∙◌, ◌++◌, ◌+◌, sym, ap, subst, List, ℕ, take, Err}
use Rattle.std.specs.Global.{Vec}
use Rattle.std.proofs.lemmas.List.{take_all, map-append}
use Rattle.sw_frame.specs.Feeds.{messages, joined}
use Rattle.dialect_frame.specs.Stream.{Stream}
use Rattle.dialect_frame.specs.Feeds.{StreamGoesOn}
use Rattle.dialect_frame.proofs.Frames.{same-stream, reading-on}
use Rattle.dialect_frame.proofs.pieces.read_pieces.Goals.{in-Ok+in_ok-append-in-Ok, in-Err-BadLength}
use Rattle.dialect_frame.proofs.pieces.read_pieces.Goals as goal

pub loop-piece-preserved : goal.loop-piece-preserved
loop-piece-preserved c =
    let f = c.args.form in
    let pieces = c.args.pieces.now in
    let i = c.loop-piece.piece-index in
    let before = joined (take i pieces) in
    let old = messages c.loop-piece.reading.messages.items in
    let g = c.loop-piece.reading.framer in
    let inv = c.loop-piece.invariant in
    let read : Stream g.form before old g.has = subst (λ k. Stream k before old g.has) (sym inv.form) inv.read in
    let after = c.feed.new.self in
    let onward : (ms : List (List ℕ)) → Stream g.form (before ++ c.deref.result.now) ms after.has → Stream f (joined (take (i + 1) pieces)) ms after.has =
    λ ms p.
    reading-on f pieces i c.piece-item.result ms after.has c.loop-piece-test.true c.piece-item.is
    (subst (λ k. Stream k (before ++ c.piece-item.result.items) ms after.has) inv.form
    (subst (λ (z : List ℕ). Stream g.form (before ++ z) ms after.has) c.deref.ensures.value p)) in
    let form = c.feed.ensures.answer in
    elim c.match-feed.branch [
      | in-Ok+in_ok-append-in-Ok w ↦
          let all : messages w.append.new.self.items ≡ old ++ messages w.in-Ok.messages.items =
          ap messages w.in_ok-append-in-Ok.ensures.items ∙ map-append (λ (v : Vec ℕ). v.items) c.loop-piece.reading.messages.items w.in-Ok.messages.items in
          let whole = onward (old ++ messages w.in-Ok.messages.items) (w.in-Ok.ensures.so_far before old read) in
          rw w.reading-is (record {
            form = w.in-Ok.ensures.answer.1 ∙ inv.form;
            read = subst (λ (z : List (List ℕ)). Stream f (joined (take (i + 1) pieces)) z after.has) (sym all) whole;
          })
      | in-Err-BadLength w ↦
          let next =
          subst (λ e. StreamGoesOn g.form before old c.deref.result.now (Err e) g.has after.has) w.in-Err-BadLength.field-0-is
          (w.in-Err-BadLength.ensures.so_far before old read) in
          rw w.reading-is (record { form = w.in-Err-BadLength.ensures.answer.1 ∙ inv.form; read = onward old next })
    ]

pub returns : goal.returns
returns c =
    let f = c.args.form in
    let inv = c.loop-piece.invariant in
    let whole = subst (λ (z : List (Vec ℕ)). Stream f (joined z) (messages c.loop-piece.reading.messages.items) c.loop-piece.reading.framer.has)
    (take_all c.loop-piece.piece-index c.args.pieces.now c.loop-piece-test.false) inv.read in
    (inv.form, whole, λ ns s p. same-stream f (joined c.args.pieces.now) ns _ s _ p whole)
