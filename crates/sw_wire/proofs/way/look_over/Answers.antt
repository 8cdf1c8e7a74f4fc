use Rattle.std.proofs.Common.{◌≡◌, ◌∙◌, true, sym, below_more}
use Rattle.sw_wire.specs.Looks.{is_open}
use Rattle.sw_wire.specs.Ways.{ShowsNothing}
use Rattle.sw_wire.proofs.way.look_over.Goals as goal

pub loop-number-preserved : goal.loop-number-preserved
loop-number-preserved g c =
    let open' : is_open c.look-look.result ≡ true = sym c.is_open.ensures ∙ c.if-not-is_open.false in
    below_more (ShowsNothing (g.W.Way.shows c.args.way.now c.args.awaited.now)) _ c.loop-number.invariant
    (c.look-look.result, c.look-look.ensures.shown, open')
