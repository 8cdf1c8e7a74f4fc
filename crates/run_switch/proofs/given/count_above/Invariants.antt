use Rattle.std.proofs.Common.{◌≡◌, map}
use Rattle.sw_stats.specs.Tallies.{tallied}
use Rattle.run_switch.proofs.given.count_above.Given as goal

abbrev pub invariant-loop-context : goal.invariant-loop-context
invariant-loop-context l = l.counts ≡ tallied l.fn.counts (map (λ e. (e.0.now, e.1.now)) l.yielded)
