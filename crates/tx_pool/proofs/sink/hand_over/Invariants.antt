use Rattle.std.proofs.Common.{take}
use Rattle.tx_pool.specs.Sinks.{TakesAll}
use Rattle.tx_pool.proofs.sink.hand_over.Given as goal

abbrev pub invariant-loop-one : goal.invariant-loop-one
invariant-loop-one g l = TakesAll g.Z.Sink.takes l.fn.sink (take l.one-index l.finished) l.sink
