use Rattle.std.proofs.Common.{IsTrue, take}
use Rattle.sqlite.specs.State.{HasCleanDisk}
use Rattle.sqlite.specs.Held.{state}
use Rattle.journal_rows.specs.Law.{changes_of}
use Rattle.journal_rows.specs.Tables.{all_made, tables_of}
use Rattle.journal_tables.specs.LastPut.{IsKnown, Learnt}
use Rattle.journal_tables.specs.Parts.{AreParts}
use Rattle.journal_tables.specs.Steps.{IsReady, KeepsCommitted}
use Rattle.journal_tables.proofs.changes.make_all.Given as goal

abbrev pub invariant-loop-entry : goal.invariant-loop-entry
invariant-loop-entry g l =
    let old = state g.S.Store l.fn.tx.conn.now in
    let now = state g.S.Store l.tx.conn.now in
    KeepsCommitted g.S.Store l.fn.tx.conn l.tx.conn
    × (HasCleanDisk now → IsReady old → IsTrue old.is_open → IsKnown l.fn.known (tables_of old.now.trees) →
    AreParts l.fn.parts (tables_of old.now.trees).part → Learnt l.parts (all_made (changes_of (take l.entry-index l.entries))) old now l.last_put)
