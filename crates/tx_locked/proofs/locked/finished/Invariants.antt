use Rattle.std.proofs.Common.{◌≡◌, ◌≤◌, length, map, take, vec_capacity}
use Rattle.tx_plant.specs.Wholes.{core_in}
use Rattle.tx_locked.specs.Finished.{AreKept}
use Rattle.tx_locked.proofs.locked.finished.Given as goal

abbrev pub invariant-loop-id : goal.invariant-loop-id
invariant-loop-id l = (map (λ f. f.id) l.list.items ≡ take l.id-index l.ids) × (length l.ids ≤ vec_capacity l.list)
    × AreKept (core_in l.running) l.list.items
