use Rattle.std.proofs.Common.{◌∙◌}
use Rattle.sw_wire.proofs.Boxes.{place_shows}
use Rattle.sw_wire.proofs.backlog.Backlog.has.Goals as goal

pub returns : goal.returns
returns g c =
    c.is_some.ensures
    ∙ place_shows (g.P.Picks.picks c.args.wanted.now) c.args.self.now c.self.inside.held.items c.place_of-place.result _ c.get.result c.self.view_is
    c.place_of-place.ensures c.self.inside.held.ok.0 c.get.ensures.variant.0 c.get.ensures.variant.1
