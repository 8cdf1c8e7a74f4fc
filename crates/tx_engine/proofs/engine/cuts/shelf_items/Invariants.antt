use Rattle.std.proofs.Common.{◌≡◌, map}
use Rattle.tx_engine.proofs.engine.cuts.shelf_items.Given as goal

abbrev pub invariant-loop-id : goal.invariant-loop-id
invariant-loop-id l = l.items.items ≡ map (λ e. (e.0.now, e.1.now)) l.yielded
