use Rattle.std.proofs.Common.{◌≡◌, ◌++◌, replicate}
use Rattle.iso_mask.proofs.mask.push_asterisks.Given as goal

abbrev pub invariant-loop : goal.invariant-loop
invariant-loop l = l.text.items ≡ l.fn.text.items ++ replicate l.counter 42
