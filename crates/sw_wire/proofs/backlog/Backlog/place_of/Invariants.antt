use Rattle.std.proofs.Common.{◌≡◌, ◌+◌, drop}
use Rattle.sw_wire.specs.Boxes.{place_of}
use Rattle.sw_wire.proofs.backlog.Backlog.place_of.Given as goal

abbrev pub invariant-loop-place : goal.invariant-loop-place
invariant-loop-place g l = l.place + place_of (g.P.Picks.picks l.wanted) (drop l.place l.self-inside.held.items) ≡ place_of (g.P.Picks.picks l.wanted) l.self-inside.held.items
