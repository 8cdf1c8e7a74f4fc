use Rattle.std.proofs.Common.{arith}
use Rattle.sqlite.specs.State.{HasCleanDisk}
use Rattle.sqlite.specs.Held.{state}
use Rattle.journal_store.proofs.MakeLemmas.{both_made, first_kept}
use Rattle.journal_store.proofs.tables.create_all.Goals as goal

pub returns-clause-makes : goal.returns-clause-makes
returns-clause-makes g c clean stage =
    let a = state g.S.Store c.args.tx.now.conn.now in
    let b = state g.S.Store c.create_first.new.tx.conn.now in
    let d = state g.S.Store c.create_part.new.tx.conn.now in
    let e = state g.S.Store c.create_joined.new.tx.conn.now in
    let late : HasCleanDisk d = omega (arith, c.create_joined.ensures.keeps.survives.clean) in
    let early : HasCleanDisk b = omega (arith, c.create_part.ensures.keeps.survives.clean) in
    let one = c.in_ok-create_first.ensures.makes early stage in
    let two = c.in_ok-create_part.ensures.makes late (first_kept a b one) one.stage.mode in
    let three = c.in_ok-create_joined.ensures.makes clean two.now two.mode in
    both_made a b d e one two three
