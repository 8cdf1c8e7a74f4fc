use Rattle.std.proofs.Common.{◌≡◌, ◌++◌, drop}
use Rattle.std.specs.List.{flat_map}
use Rattle.cli_journal.specs.Shown.{waiting_in}
use Rattle.cli_journal.proofs.journal.push_shelf.Given as goal

abbrev pub invariant-loop-waiting : goal.invariant-loop-waiting
invariant-loop-waiting l = l.text.items ++ flat_map (waiting_in l.style) (drop l.waiting-index l.shelf) ≡ l.fn.text.items
    ++ flat_map (waiting_in l.style) l.shelf
