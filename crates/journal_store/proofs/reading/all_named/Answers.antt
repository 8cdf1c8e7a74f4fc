use Rattle.std.proofs.Common.{map, ap₂, ◌∙◌}
use Rattle.sqlite.specs.Held.{state}
use Rattle.journal_rows.specs.Reads.{shown_named}
use Rattle.journal_store.proofs.ReadLemmas.{names_shown}
use Rattle.journal_store.proofs.reading.all_named.Goals as goal

pub returns-in-Ok-clause-rows : goal.returns-in-Ok-clause-rows
returns-in-Ok-clause-rows g c clean ready =
    let db = (state g.S.Store c.args.conn.now).now.trees in
    c.in-Ok.ensures ∙ ap₂ (λ p l. map (shown_named p) l) ready.1 (c.as_slice.ensures.value ∙ c.in_ok-joined.ensures.rows clean ready.0)
    ∙ names_shown (db 7) (db 9)
