use Rattle.std.proofs.Common.{take}
use Rattle.tx_locked.specs.AllStations.{AllThere}
use Rattle.tx_locked.proofs.comparing.are_there.Given as goal

abbrev pub invariant-loop-call : goal.invariant-loop-call
invariant-loop-call l = AllThere l.stations (take l.call-index l.made)
