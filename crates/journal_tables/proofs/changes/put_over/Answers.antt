use Rattle.std.proofs.Common.{◌≡◌, IsTrue, arith, length, sym, ap, subst, ◌∙◌}
use Rattle.sqlite.specs.State.{HasCleanDisk}
use Rattle.sqlite.specs.Held.{state}
use Rattle.journal_rows.specs.Tables.{Tables, tables_of}
use Rattle.journal_tables.specs.LastPut.{LastIsThere, has_tx}
use Rattle.journal_tables.specs.Parts.{AreParts}
use Rattle.journal_tables.specs.Steps.{with_cells}
use Rattle.journal_tables.proofs.CellLemmas.{cells_put, then_last}
use Rattle.journal_tables.proofs.LastPutLemmas.{nothing_new}
use Rattle.journal_tables.proofs.changes.put_over.Goals as goal

pub returns-then-as_slice-known-clause-steps : goal.returns-then-as_slice-known-clause-steps
returns-then-as_slice-known-clause-steps g c clean ready live known are =
    let t = tables_of (state g.S.Store c.args.tx.now.conn.now).now.trees in
    let id = c.args.known.id in
    let row = c.args.row.now in
    let old = state g.S.Store c.args.tx.now.conn.now in
    let new = state g.S.Store c.change_row.new.tx.conn.now in
    let there = subst (λ n. IsTrue (has_tx n t.tx)) (sym c.cells_of.ensures.id) known.row in
    let steps = cells_put id row c.cells_of.result old new c.cells_of.ensures.cells (c.in_ok-change_row.ensures.steps clean ready there) in
    let count : length row.joined ≡ c.args.known.members = ap length (sym c.as_slice.ensures) ∙ c.if-as_slice-known.true in
    let stands = subst (λ k. LastIsThere id k t.member) (sym count) known.last in
    record {
      steps = record {
        ready = steps.ready;
        tables = steps.tables ∙ sym (nothing_new id row.joined (with_cells id row t) stands);
        committed = steps.committed;
        is_open = steps.is_open;
      };
      parts_are = subst (AreParts c.args.parts.now) (sym (ap (λ (u : Tables). u.part) steps.tables)) are;
    }

pub returns-clause-steps : goal.returns-clause-steps
returns-clause-steps g c clean ready live known are =
    let old = state g.S.Store c.args.tx.now.conn.now in
    let mid = state g.S.Store c.change_row.new.tx.conn.now in
    let new = state g.S.Store c.put_last.new.tx.conn.now in
    let id = c.args.known.id in
    let row = c.args.row.now in
    let clean_mid : HasCleanDisk mid = omega (arith, c.put_last.ensures.keeps.survives.clean) in
    let there = subst (λ n. IsTrue (has_tx n (tables_of old.now.trees).tx)) (sym c.cells_of.ensures.id) known.row in
    let one = cells_put id row c.cells_of.result old mid c.cells_of.ensures.cells (c.in_ok-change_row.ensures.steps clean_mid ready there) in
    then_last id row c.as_slice-2.result.now c.args.parts.now c.put_last.new.parts old mid new c.put_last.result c.as_slice-2.ensures one are
    (c.put_last.ensures.steps clean)
