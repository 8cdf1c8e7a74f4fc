use Rattle.std.proofs.Common.{sym}
use Rattle.sqlite.specs.Held.{state}
use Rattle.journal_tables.proofs.KnownParts.{known_after, named_if}
use Rattle.journal_tables.proofs.changes.put_name.Goals as goal

pub returns-in-Some-clause-steps : goal.returns-in-Some-clause-steps
returns-in-Some-clause-steps g c clean ready live are =
    let old = state g.S.Store c.args.tx.now.conn.now in
    let new = state g.S.Store c.put_part.new.tx.conn.now in
    named_if c.put_part.result (λ steps. known_after c.args.id c.args.place c.args.name.now c.args.parts.now c.in-Some.part old new are
    (sym c.in-Some.ensures.is) steps) (c.put_part.ensures.steps clean ready live)
