use Rattle.std.proofs.Common.{◌≡◌, map, take}
use Rattle.tx_history.specs.History.{name_of}
use Rattle.tx_slots.proofs.rows.names_of.Given as goal

abbrev pub invariant-loop-member : goal.invariant-loop-member
invariant-loop-member l = l.names.items ≡ map (name_of l.code) (take l.member-index l.members)
