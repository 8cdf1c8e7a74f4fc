use Rattle.std.proofs.Common.{[], ◌∷◌, to_z-of_z}
use Rattle.sqlite.specs.Held.{state}
use Rattle.sqlite.specs.declared.types.Value.TheVariants.{Blob, Int}
use Rattle.store_base.proofs.ReadLemmas.{only_reads, same_if}
use Rattle.book_store.specs.Schema.{book_schema}
use Rattle.book_store.specs.Texts.{used_text}
use Rattle.book_store.proofs.QueryLemmas.{reads_used}
use Rattle.book_store.proofs.TextFacts.{used_asks, sum_names, used_query}
use Rattle.book_store.proofs.reading.used_rows.Goals as goal

pub returns-clause-rows : goal.returns-clause-rows
returns-clause-rows g c clean ready = reads_used (state g.S.Store c.args.conn.now) (state g.S.Store c.query_all.new.self) ready c.args.card.now c.args.day
    c.query_all.result
    (rw (to_z-of_z c.ranges.day) at (c.query_all.ensures.ok clean))

pub returns-clause-same : goal.returns-clause-same
returns-clause-same g c clean ready = same_if book_schema used_text used_query sum_names used_asks (state g.S.Store c.args.conn.now)
    (state g.S.Store c.query_all.new.self) ready.schema_is (Blob c.args.card.now ∷ Int c.args.day ∷ []) c.query_all.result (rw (to_z-of_z c.ranges.day) at
    (c.query_all.ensures.ok clean))

pub returns-clause-survives : goal.returns-clause-survives
returns-clause-survives g c = only_reads book_schema used_text used_asks.plain (Blob c.args.card.now ∷ Int c.args.day ∷ []) (state g.S.Store c.args.conn.now)
    (state g.S.Store c.query_all.new.self) (rw (to_z-of_z c.ranges.day) at (c.query_all.ensures.survives))
