use Rattle.std.proofs.Common.{◌≡◌, ◌+◌, drop}
use Rattle.tx_machine.specs.Runs.{run_of}
use Rattle.tx_machine.proofs.names.run_len.Given as goal

abbrev pub invariant-loop-number : goal.invariant-loop-number
invariant-loop-number l = l.number + run_of (drop l.number l.text) ≡ run_of l.text
