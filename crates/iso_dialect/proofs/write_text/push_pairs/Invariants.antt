use Rattle.std.proofs.Common.{◌≡◌, ◌*◌, ◌++◌, drop}
use Rattle.iso_dialect.specs.Codings.{packed}
use Rattle.iso_dialect.proofs.write_text.push_pairs.Given as goal

abbrev pub invariant-loop-i : goal.invariant-loop-i
invariant-loop-i l = l.out.items ++ packed (drop (2 * l.i) l.list) ≡ l.fn.out.items ++ packed l.list
