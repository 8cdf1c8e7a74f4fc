use Rattle.std.proofs.Common.{◌≡◌, drop}
use Rattle.tx_machine.specs.Table.{after, opening}
use Rattle.tx_machine.specs.Lists.{is_lawful}
use Rattle.tx_machine.specs.Contract.{tx_state, IsSound}
use Rattle.tx_machine.proofs.machine.Machine.after_items.Given as goal

abbrev pub invariant-loop-item : goal.invariant-loop-item
invariant-loop-item l = record {
  sound : IsSound l.code l.machine;
  stands : after l.code (tx_state l.code l.machine) (drop l.item-index l.items) ≡ after l.code (opening l.code l.tries l.fn.saved.items) l.items;
  laws : is_lawful l.code (tx_state l.code l.machine) (drop l.item-index l.items) ≡ is_lawful l.code (opening l.code l.tries l.fn.saved.items) l.items;
}
