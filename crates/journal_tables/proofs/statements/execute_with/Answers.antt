use Rattle.std.proofs.Common.{rules, to_z-of_z, SFits, w64}
use Rattle.journal_tables.proofs.statements.execute_with.Goals as goal

pub returns-clause-runs : goal.returns-clause-runs
returns-clause-runs g c clean ready =
    let row = c.args.row.now in
    let id : SFits w64 row.id = search rules in
    let phase : SFits w64 row.phase = search rules in
    let told : SFits w64 row.told = search rules in
    let tries : SFits w64 row.tries = search rules in
    rw (to_z-of_z id, to_z-of_z phase, to_z-of_z told, to_z-of_z tries) at (c.execute.ensures.runs clean ready.mode)
