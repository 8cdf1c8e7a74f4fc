use Rattle.std.proofs.Common.{◌∙◌, to_z-of_z}
use Rattle.sqlite.specs.Held.{state}
use Rattle.book_store.specs.Lines.{lines_of}
use Rattle.book_store.proofs.QueryLemmas.{day_found}
use Rattle.book_store.proofs.reading.first_day.Goals as goal

pub returns-clause-found : goal.returns-clause-found
returns-clause-found g c clean ready = c.first_int.ensures ∙ day_found c.args.from (lines_of (state g.S.Store c.args.conn.now).now.trees) c.as_slice.result.now
    (c.as_slice.ensures.value ∙ (rw (to_z-of_z c.ranges.from) at (c.in_ok-rows.ensures.rows clean ready)))
