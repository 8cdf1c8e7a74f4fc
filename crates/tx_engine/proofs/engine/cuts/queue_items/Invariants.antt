use Rattle.std.proofs.Common.{◌≡◌, map}
use Rattle.tx_engine.proofs.engine.cuts.queue_items.Given as goal

abbrev pub invariant-loop-waiting : goal.invariant-loop-waiting
invariant-loop-waiting l = l.items.items ≡ map (λ w. w.now) l.yielded
