use Rattle.std.proofs.Common.{◌≡◌, take}
use Rattle.journal_tables.specs.Parts.{numbered_from}
use Rattle.journal_store.proofs.opening.parts_of.Given as goal

abbrev pub invariant-loop-row : goal.invariant-loop-row
invariant-loop-row l = (l.at ≡ l.row-index) × (take l.row-index l.rows ≡ numbered_from 0 l.parts)
