use Rattle.std.proofs.Common.{Option, IfSome, subst, sym}
use Rattle.std.specs.Prelude.{IsTrue}
use Rattle.sw_wire.proofs.Boxes.{first_passes, none_gives, place_left, place_takes}
use Rattle.sw_wire.proofs.backlog.Backlog.take_one.Goals as goal

pub returns-clause-taken : goal.returns-clause-taken
returns-clause-taken g c =
    place_takes (g.P.Picks.picks c.args.wanted.now) c.args.self.now c.self.inside.held.items c.place_of-place.result _ c.remove.result c.self.view_is
    c.place_of-place.ensures c.self.inside.held.ok.0 c.remove.ensures.value c.remove.ensures.variant.0 c.remove.ensures.variant.1

pub returns-clause-left : goal.returns-clause-left
returns-clause-left g c =
    place_left (g.P.Picks.picks c.args.wanted.now) c.args.self.now c.self.inside.held.items c.remove.new.self.items c.place_of-place.result _
    c.remove.result c.self.view_is c.place_of-place.ensures c.self.inside.held.ok.0 c.remove.ensures.variant.1 c.remove.ensures.items (none_gives c.remove.result _ _ (λ e. cc e) c.remove.ensures.unchanged)

pub returns-clause-picked : goal.returns-clause-picked
returns-clause-picked g c =
    subst (λ (o : Option g.row.T.Denot). IfSome o (λ y. IsTrue (g.P.Picks.picks c.args.wanted.now y))) (sym (returns-clause-taken g c))
    (first_passes (g.P.Picks.picks c.args.wanted.now) c.args.self.now)
