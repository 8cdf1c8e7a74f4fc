use Rattle.std.proofs.Common.{◌∙◌, to_z-of_z}
use Rattle.sqlite.specs.Held.{state}
use Rattle.book_store.specs.Lines.{lines_of}
use Rattle.book_store.proofs.QueryLemmas.{id_found}
use Rattle.book_store.proofs.reading.last_id.Goals as goal

pub returns-clause-found : goal.returns-clause-found
returns-clause-found g c clean ready = c.last_int.ensures ∙ id_found c.args.day c.args.most (lines_of (state g.S.Store c.args.conn.now).now.trees)
    c.as_slice.result.now
    (c.as_slice.ensures.value ∙ (rw (to_z-of_z c.ranges.day, to_z-of_z c.ranges.most) at (c.in_ok-rows.ensures.rows clean ready)))
