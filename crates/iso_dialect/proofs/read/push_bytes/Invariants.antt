use Rattle.std.proofs.Common.{◌≡◌, ◌++◌, take}
use Rattle.iso_dialect.proofs.read.push_bytes.Given as goal

abbrev pub invariant-loop-b : goal.invariant-loop-b
invariant-loop-b l = l.text ≡ l.fn.text ++ take l.b-index l.bytes
