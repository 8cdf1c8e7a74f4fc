use Rattle.std.proofs.Common.{◌≡◌, ◌∙◌, [], false, is_some, refl, sym}
use Rattle.run_responses.specs.Giving.{giving_of}
use Rattle.run_responses.proofs.Giving.{gives_none, gives_popped, gives_then}
use Rattle.run_responses.proofs.sink.Responses+O+T.release.Goals as goal

pub loop-init : goal.loop-init
loop-init g c = (refl, gives_none (giving_of g.O.Write.contents c.args.self.now))

pub loop-preserved : goal.loop-preserved
loop-preserved g c =
    let (same, gave) = c.loop.invariant in
    let start = giving_of g.O.Write.contents c.args.self.now in
    let before = giving_of g.O.Write.contents c.loop.self in
    let now = giving_of g.O.Write.contents c.give.new.self in
    let popped = record before { held = c.pop_first.new.self.entries } in
    let ok : is_some c.loop.self.kept.fault ≡ false = sym c.is_some.ensures ∙ c.if-is_some.false in
    let more = gives_popped before popped c.in-Some.id c.in-Some.context now c.in-Some.ensures.removal refl refl refl
    (gave.order ∙ c.requires.order) c.give.ensures.gives in
    (c.give.ensures.same ∙ same, gives_then start [] before [] now gave ok more)
