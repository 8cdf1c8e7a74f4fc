use Rattle.std.proofs.Common.{◌≡◌, arith, pos, length, sym, subst}
use Rattle.sqlite.specs.Held.{state}
use Rattle.sqlite.specs.State.{HasCleanDisk}
use Rattle.journal_rows.specs.Tables.{tables_of, with_member}
use Rattle.journal_tables.specs.Parts.{Named}
use Rattle.journal_tables.proofs.KnownParts.{named_after, named_if, new_all_above}
use Rattle.journal_tables.proofs.changes.put_new.Goals as goal

pub returns-clause-steps : goal.returns-clause-steps
returns-clause-steps g c clean ready live are =
    let old = state g.S.Store c.args.tx.now.conn.now in
    let mid = state g.S.Store c.put_next.new.tx.conn.now in
    let new = state g.S.Store c.put_anew.new.tx.conn.now in
    let parts = c.args.parts.now in
    let name = c.args.name.now in
    let n : c.len-n.result ≡ length parts = c.len-n.ensures.is in
    let clean_mid : HasCleanDisk mid = omega (arith, c.put_anew.ensures.keeps.survives.clean) in
    let one = c.in_ok-put_next.ensures.steps clean_mid ready (new_all_above name parts (tables_of old.now.trees).part c.len-n.result n are c.requires.new) in
    let two = c.put_anew.ensures.steps clean one.ready in
    named_if c.put_anew.result (λ two. subst (λ after. Named after (with_member (pos c.args.id) (pos c.args.place) name) old new) (sym c.in_ok-push.ensures.ok)
    (named_after c.args.id c.args.place name parts c.len-n.result n old mid new ready are c.requires.new one two)) two
