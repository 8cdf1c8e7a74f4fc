use Rattle.std.proofs.Common.{◌≡◌, map, take, length}
use Rattle.run_responses.proofs.sink.are_given.Given as goal

abbrev pub invariant-loop-id : goal.invariant-loop-id
invariant-loop-id l = (l.count ≡ length l.yielded) × (map (λ e. e.0.now) l.yielded ≡ take l.count l.given)
