use Rattle.std.proofs.Common.{◌≡◌, Some, length, sym, ap, subst}
use Rattle.sqlite.specs.Held.{state}
use Rattle.journal_rows.specs.Tables.{tables_of, row_put}
use Rattle.journal_tables.specs.LastPut.{IsKnown}
use Rattle.journal_tables.proofs.LastPutLemmas.{put_is_there}
use Rattle.journal_tables.proofs.changes.make_row.Goals as goal

pub returns-clause-steps : goal.returns-clause-steps
returns-clause-steps g c clean ready live known are =
    let old = state g.S.Store c.args.tx.now.conn.now in
    let id = c.in-Some.id in
    let row = c.in-Some-put.row in
    let count : length row.joined ≡ length c.as_slice.result.now = ap length (sym c.as_slice.ensures) in
    let named = c.in_ok-put_known.ensures.steps clean ready live known are in
    let stands = subst (λ t. IsKnown (Some (record { id = id; members = length c.as_slice.result.now })) t) (sym named.steps.tables)
    (subst (λ k. IsKnown (Some (record { id = id; members = k })) (row_put id (Some row) (tables_of old.now.trees))) count
    (put_is_there id row (tables_of old.now.trees))) in
    rw (c.in-Some.is, c.in-Some-put.is) (record { steps = named.steps; known = stands; parts_are = named.parts_are })
