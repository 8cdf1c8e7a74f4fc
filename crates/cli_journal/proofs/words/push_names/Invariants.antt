use Rattle.std.proofs.Common.{◌≡◌, ◌++◌, drop}
use Rattle.std.specs.List.{flat_map}
use Rattle.cli_journal.specs.Text.{spaced}
use Rattle.cli_journal.proofs.words.push_names.Given as goal

abbrev pub invariant-loop-name : goal.invariant-loop-name
invariant-loop-name l = l.text.items ++ flat_map spaced (drop l.name-index l.names) ≡ l.fn.text.items ++ flat_map spaced l.names
