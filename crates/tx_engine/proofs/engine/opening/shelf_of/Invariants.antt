use Rattle.std.proofs.Common.{◌≡◌, take}
use Rattle.tx_engine.proofs.engine.opening.shelf_of.Given as goal

abbrev pub invariant-loop-id : goal.invariant-loop-id
invariant-loop-id l = l.shelf.entries ≡ take l.id-index l.items
