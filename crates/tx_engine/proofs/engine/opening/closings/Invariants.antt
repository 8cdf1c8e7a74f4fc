use Rattle.std.proofs.Common.{◌≡◌, [], take}
use Rattle.flow_model.specs.declared.flow.Flow.{Flow}
use Rattle.tx_history.specs.History.{Start}
use Rattle.tx_history.specs.Journal.{entries, to_close}
use Rattle.tx_history.specs.Lives.{closes_of}
use Rattle.tx_engine.proofs.engine.opening.closings.Given as goal

abbrev pub invariant-loop-id : goal.invariant-loop-id
invariant-loop-id l = (f : Flow) (v : Start) → l.made.items ≡ entries f v (closes_of (to_close f (take l.id-index l.rows)) [])
