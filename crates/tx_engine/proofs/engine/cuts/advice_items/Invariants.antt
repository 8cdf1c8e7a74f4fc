use Rattle.std.proofs.Common.{◌≡◌, map}
use Rattle.tx_engine.proofs.engine.cuts.advice_items.Given as goal

abbrev pub invariant-loop-place : goal.invariant-loop-place
invariant-loop-place l = l.items.items ≡ map (λ e. (e.0.now, e.1.now)) l.yielded
