use Rattle.std.proofs.Common.{◌≡◌, drop}
use Rattle.tx_machine.specs.Names.{names_of}
use Rattle.tx_machine.proofs.names.skip_gaps.Given as goal

abbrev pub invariant-loop-number : goal.invariant-loop-number
invariant-loop-number l = names_of (drop l.number l.text) ≡ names_of l.text
