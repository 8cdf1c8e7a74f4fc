use Rattle.std.proofs.Common.{arith}
use Rattle.sqlite.specs.Held.{state}
use Rattle.sqlite.specs.State.{HasCleanDisk}
use Rattle.journal_tables.proofs.ChainLemmas.{steps_then}
use Rattle.journal_tables.proofs.LastPutLemmas.{still_known, still_named, next_leaves, emptied_leaves, shelf_leaves, advice_leaves}
use Rattle.journal_tables.proofs.changes.make.Goals as goal

pub returns-clause-steps : goal.returns-clause-steps
returns-clause-steps g c clean ready live known are =
    let change = c.args.change.now in
    let old = state g.S.Store c.args.tx.now.conn.now in
    let next = state g.S.Store c.make_next.new.tx.conn.now in
    let row = state g.S.Store c.make_row.new.tx.conn.now in
    let emptied = state g.S.Store c.empty_shelf.new.tx.conn.now in
    let shelved = state g.S.Store c.make_shelved.new.tx.conn.now in
    let new = state g.S.Store c.make_advice.new.tx.conn.now in
    let clean_shelved : HasCleanDisk shelved = omega (arith, c.make_advice.ensures.keeps.survives.clean) in
    let clean_emptied : HasCleanDisk emptied = omega (arith, clean_shelved, c.make_shelved.ensures.keeps.survives.clean) in
    let clean_row : HasCleanDisk row = omega (arith, clean_emptied, c.empty_shelf.ensures.keeps.survives.clean) in
    let clean_next : HasCleanDisk next = omega (arith, clean_row, c.make_row.ensures.keeps.survives.clean) in
    let one = c.in_ok-make_next.ensures.steps clean_next ready live in
    let then = still_known _ (next_leaves change.next_id) c.args.known old next one known in
    let parts_then = still_named _ (next_leaves change.next_id) c.args.parts.now old next one are in
    let two = c.in_ok-last_put.ensures.steps clean_row one.ready one.is_open then parts_then in
    let three = c.in_ok-empty_shelf.ensures.steps clean_emptied two.steps.ready two.steps.is_open in
    let four = c.in_ok-make_shelved.ensures.steps clean_shelved three.ready three.is_open in
    let five = c.in_ok-make_advice.ensures.steps clean four.ready four.is_open in
    let last_put = c.in_ok-last_put.last_put in
    let parts = c.make_row.new.parts in
    let after_empty = still_known _ (emptied_leaves change.emptied) last_put row emptied three two.known in
    let after_shelf = still_known _ (shelf_leaves change.shelved) last_put emptied shelved four after_empty in
    let parts_empty = still_named _ (emptied_leaves change.emptied) parts row emptied three two.parts_are in
    let parts_shelf = still_named _ (shelf_leaves change.shelved) parts emptied shelved four parts_empty in
    record {
      steps = steps_then _ _ old shelved new (steps_then _ _ old emptied shelved (steps_then _ _ old row emptied (steps_then _ _ old next row one two.steps)
          three) four) five;
      known = still_known _ (advice_leaves change.advice) last_put shelved new five after_shelf;
      parts_are = still_named _ (advice_leaves change.advice) parts shelved new five parts_shelf;
    }
