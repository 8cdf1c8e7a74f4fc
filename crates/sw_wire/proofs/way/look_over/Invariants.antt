use Rattle.std.proofs.Common.{ℕ, ◌<◌}
use Rattle.sw_wire.specs.Ways.{ShowsNothing}
use Rattle.sw_wire.proofs.way.look_over.Given as goal

abbrev pub invariant-loop-number : goal.invariant-loop-number
invariant-loop-number g l = (k : ℕ) → k < l.number → ShowsNothing (g.W.Way.shows l.way l.awaited) k
