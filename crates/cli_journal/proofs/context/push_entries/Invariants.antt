use Rattle.std.proofs.Common.{◌≡◌, ◌++◌, drop, length}
use Rattle.std.specs.List.{flat_map}
use Rattle.cli_journal.specs.Shown.{entry_in}
use Rattle.cli_journal.proofs.context.push_entries.Given as goal

abbrev pub invariant-loop-index : goal.invariant-loop-index
invariant-loop-index l = record {
  ends : l.index-end ≡ length l.context;
  texts : l.text.items ++ flat_map (entry_in l.style l.owner) (drop l.index l.context) ≡ l.fn.text.items ++ flat_map (entry_in l.style l.owner) l.context;
}
