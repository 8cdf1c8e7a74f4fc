use Rattle.std.proofs.Common.{All}
use Rattle.journal_tables.specs.Small.{IsEntrySmall}
use Rattle.test_bench.proofs.journal.entries.Given as goal

abbrev pub invariant-loop-n : goal.invariant-loop-n
invariant-loop-n l = All IsEntrySmall l.list.items
