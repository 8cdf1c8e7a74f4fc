use Rattle.std.proofs.Common.{◌≡◌, ◌≤◌, length, take}
use Rattle.tx_locked.specs.AllStations.{calls_at}
use Rattle.tx_locked.proofs.comparing.are_calls_at.Given as goal

abbrev pub invariant-loop-call : goal.invariant-loop-call
invariant-loop-call l = (l.next ≤ length l.log) × (calls_at l.station (take l.call-index l.made) ≡ take l.next l.log)
