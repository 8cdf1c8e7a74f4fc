use Rattle.std.proofs.Common.{◌≡◌, drop}
use Rattle.sw_mux.specs.Waiting.{without_all, later}
use Rattle.sw_mux.proofs.mux.Mux.expire.Given as goal

-- once the keys to come are out as well, what is due later is left
abbrev pub invariant-loop-key : goal.invariant-loop-key
invariant-loop-key l = without_all (drop l.key-index l.key-items) l.self ≡ later l.fn.tick l.fn.self
