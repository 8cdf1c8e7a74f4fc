use Rattle.std.proofs.Common.{arith, ◌∙◌}
use Rattle.sqlite.specs.State.{HasCleanDisk}
use Rattle.sqlite.specs.Held.{state}
use Rattle.store_base.specs.Making.{Makes}
use Rattle.book_store.specs.Schema.{book_schema}
use Rattle.book_store.proofs.SaltLemmas.{made_ready, filled}
use Rattle.book_store.proofs.changes.fill.Goals as goal

pub returns-clause-fills : goal.returns-clause-fills
returns-clause-fills g c clean stage =
    let a = state g.S.Store c.args.tx.now.conn.now in
    let b = state g.S.Store c.create_salt.new.tx.conn.now in
    let d = state g.S.Store c.create_item.new.tx.conn.now in
    let e = state g.S.Store c.add_salt.new.tx.conn.now in
    let late : HasCleanDisk d = omega (arith, c.add_salt.ensures.keeps.survives.clean) in
    let early : HasCleanDisk b = omega (arith, c.create_item.ensures.keeps.survives.clean) in
    let one = c.in_ok-create_salt.ensures.makes early stage in
    let two = c.in_ok-create_item.ensures.makes late one.stage in
    let made : Makes book_schema a d = record { stage = two.stage; sound = two.sound; committed = two.committed ∙ one.committed; is_open = two.is_open } in
    filled a d e c.args.salt.now made (c.in_ok-add_salt.ensures.steps clean (made_ready a d made))
