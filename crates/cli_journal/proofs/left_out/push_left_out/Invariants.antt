use Rattle.std.proofs.Common.{◌≡◌, ◌++◌, drop}
use Rattle.std.specs.List.{flat_map}
use Rattle.cli_journal.specs.LeftOut.{left_out_as}
use Rattle.cli_journal.proofs.left_out.push_left_out.Given as goal

abbrev pub invariant-loop-bad : goal.invariant-loop-bad
invariant-loop-bad l = l.text.items ++ flat_map (left_out_as l.form) (drop l.bad-index l.rows) ≡ l.fn.text.items ++ flat_map (left_out_as l.form) l.rows
