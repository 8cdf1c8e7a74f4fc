use Rattle.std.proofs.Common.{arith}
use Rattle.sqlite.specs.State.{HasCleanDisk}
use Rattle.sqlite.specs.Held.{state}
use Rattle.journal_store.proofs.MakeLemmas.{made_ready, filled}
use Rattle.journal_store.proofs.tables.fill.Goals as goal

pub returns-clause-fills : goal.returns-clause-fills
returns-clause-fills g c clean stage =
    let a = state g.S.Store c.args.tx.now.conn.now in
    let b = state g.S.Store c.create_all.new.tx.conn.now in
    let d = state g.S.Store c.add_meta.new.tx.conn.now in
    let e = state g.S.Store c.add_meta-2.new.tx.conn.now in
    let late : HasCleanDisk d = omega (arith, c.add_meta-2.ensures.keeps.survives.clean) in
    let early : HasCleanDisk b = omega (arith, c.add_meta.ensures.keeps.survives.clean) in
    let made = c.in_ok-create_all.ensures.makes early stage in
    let one = c.in_ok-add_meta.ensures.steps late (made_ready a b made) in
    let two = c.in_ok-add_meta-2.ensures.steps clean one.ready in
    filled a b d e made one two
