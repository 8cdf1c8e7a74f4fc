use Rattle.std.proofs.Common.{[], ◌∷◌, to_z-of_z}
use Rattle.sqlite.specs.Held.{state}
use Rattle.sqlite.specs.declared.types.Value.TheVariants.{Int}
use Rattle.store_base.proofs.ReadLemmas.{only_reads, same_if}
use Rattle.book_store.specs.Schema.{book_schema}
use Rattle.book_store.specs.Texts.{of_id_text}
use Rattle.book_store.proofs.QueryLemmas.{reads_id}
use Rattle.book_store.proofs.TextFacts.{id_query, ids_names, of_id_asks}
use Rattle.book_store.proofs.reading.of_id.Goals as goal

pub returns-clause-rows : goal.returns-clause-rows
returns-clause-rows g c clean ready = reads_id (state g.S.Store c.args.conn.now) (state g.S.Store c.query_all.new.self) ready c.args.id c.query_all.result
    (rw (to_z-of_z c.ranges.id) at (c.query_all.ensures.ok clean))

pub returns-clause-same : goal.returns-clause-same
returns-clause-same g c clean ready = same_if book_schema of_id_text id_query ids_names of_id_asks (state g.S.Store c.args.conn.now)
    (state g.S.Store c.query_all.new.self) ready.schema_is (Int c.args.id ∷ []) c.query_all.result (rw (to_z-of_z c.ranges.id) at
    (c.query_all.ensures.ok clean))

pub returns-clause-survives : goal.returns-clause-survives
returns-clause-survives g c = only_reads book_schema of_id_text of_id_asks.plain (Int c.args.id ∷ []) (state g.S.Store c.args.conn.now)
    (state g.S.Store c.query_all.new.self) (rw (to_z-of_z c.ranges.id) at (c.query_all.ensures.survives))
