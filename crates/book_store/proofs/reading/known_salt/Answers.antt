use Rattle.std.proofs.Common.{◌∙◌}
use Rattle.sqlite.specs.Held.{state}
use Rattle.book_store.proofs.QueryLemmas.{salt_known}
use Rattle.book_store.proofs.reading.known_salt.Goals as goal

pub returns-clause-salt : goal.returns-clause-salt
returns-clause-salt g c clean ready = salt_known (state g.S.Store c.args.conn.now).now c.as_slice.result.now c.salt_of.result ready
    (c.as_slice.ensures.value ∙ c.in_ok-rows.ensures.rows clean ready) c.salt_of.ensures
