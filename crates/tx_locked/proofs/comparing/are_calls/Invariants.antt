use Rattle.std.proofs.Common.{◌≡◌, ◌<◌, ℕ, Vec, Global, Some}
use Rattle.std.specs.Prelude.{slice_get}
use Rattle.tx_locked.specs.declared.station.MadeCall.{MadeCall}
use Rattle.tx_locked.specs.AllStations.{calls_at}
use Rattle.tx_locked.proofs.comparing.are_calls.Given as goal

abbrev pub invariant-loop-k : goal.invariant-loop-k
invariant-loop-k l = (s : ℕ) (v : Vec MadeCall Global) → s < l.k → slice_get l.logs s ≡ Some v → calls_at s l.made ≡ v.items
