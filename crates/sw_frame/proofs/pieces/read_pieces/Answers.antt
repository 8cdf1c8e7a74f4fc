use Rattle.std.proofs.Common.{◌≡◌, ◌∙◌, ◌++◌, ◌+◌, sym, ap, subst, List, ℕ, take, Err}
use Rattle.std.specs.Global.{Vec}
use Rattle.std.proofs.lemmas.List.{take_all, map-append}
use Rattle.sw_frame.specs.Stream.{Stream}
use Rattle.sw_frame.specs.Feeds.{messages, joined, StreamGoesOn}
use Rattle.sw_frame.proofs.Frames.{same-stream, reading-on}
use Rattle.sw_frame.proofs.pieces.read_pieces.Goals.{in-Ok+in_ok-append-in-Ok, in-Err-BadLength}
use Rattle.sw_frame.specs.declared.pieces.StreamReading.{StreamReading}
use Rattle.sw_frame.proofs.pieces.read_pieces.Goals as goal

pub loop-piece-preserved : goal.loop-piece-preserved
loop-piece-preserved c =
    let pieces = c.args.pieces.now in
    let i = c.loop-piece.piece-index in
    let before = joined (take i pieces) in
    let old = messages c.loop-piece.reading.messages.items in
    elim c.match-feed.branch [
      | in-Ok+in_ok-append-in-Ok w ↦
          let all : messages w.append.new.self.items ≡ old ++ messages w.in-Ok.messages.items =
          ap messages w.in_ok-append-in-Ok.ensures.items ∙ map-append (λ (v : Vec ℕ). v.items) c.loop-piece.reading.messages.items w.in-Ok.messages.items in
          let next = w.in-Ok.ensures.so_far before old c.loop-piece.invariant in
          let this = subst (λ (z : List ℕ). Stream (before ++ z) (old ++ messages w.in-Ok.messages.items) c.feed.new.self) c.deref.ensures.value next in
          let whole = reading-on pieces i c.piece-item.result _ c.feed.new.self c.loop-piece-test.true c.piece-item.is this in
          subst (λ (r : StreamReading). Stream (joined (take (i + 1) pieces)) (messages r.messages.items) r.framer) (sym w.reading-is)
          (subst (λ (z : List (List ℕ)). Stream (joined (take (i + 1) pieces)) z c.feed.new.self) (sym all) whole)
      | in-Err-BadLength w ↦
          let next =
          subst (λ e. StreamGoesOn before old c.deref.result.now (Err e) c.loop-piece.reading.framer c.feed.new.self) w.in-Err-BadLength.field-0-is
          (w.in-Err-BadLength.ensures.so_far before old c.loop-piece.invariant) in
          let this = subst (λ (z : List ℕ). Stream (before ++ z) old c.feed.new.self) c.deref.ensures.value next in
          let whole = reading-on pieces i c.piece-item.result old c.feed.new.self c.loop-piece-test.true c.piece-item.is this in
          subst (λ (r : StreamReading). Stream (joined (take (i + 1) pieces)) (messages r.messages.items) r.framer) (sym w.reading-is) whole
    ]

pub returns : goal.returns
returns c =
    let whole = subst (λ (z : List (Vec ℕ)). Stream (joined z) (messages c.loop-piece.reading.messages.items) c.loop-piece.reading.framer)
    (take_all c.loop-piece.piece-index c.args.pieces.now c.loop-piece-test.false) c.loop-piece.invariant in
    (whole, λ fs s p. same-stream (joined c.args.pieces.now) fs _ s _ p whole)
