use Rattle.std.proofs.Common.{[], ◌∷◌}
use Rattle.sqlite.specs.Held.{state}
use Rattle.sqlite.specs.declared.types.Value.TheVariants.{Blob}
use Rattle.store_base.proofs.ReadLemmas.{only_reads, same_if}
use Rattle.book_store.specs.Schema.{book_schema}
use Rattle.book_store.specs.Texts.{of_request_text}
use Rattle.book_store.proofs.QueryLemmas.{reads_request}
use Rattle.book_store.proofs.TextFacts.{of_request_asks, request_names, request_query}
use Rattle.book_store.proofs.reading.of_request.Goals as goal

pub returns-clause-rows : goal.returns-clause-rows
returns-clause-rows g c clean ready = reads_request (state g.S.Store c.args.conn.now) (state g.S.Store c.query_all.new.self) ready c.args.request.now
    c.query_all.result
    (c.query_all.ensures.ok clean)

pub returns-clause-same : goal.returns-clause-same
returns-clause-same g c clean ready = same_if book_schema of_request_text request_query request_names of_request_asks (state g.S.Store c.args.conn.now)
    (state g.S.Store c.query_all.new.self) ready.schema_is (Blob c.args.request.now ∷ []) c.query_all.result (c.query_all.ensures.ok clean)

pub returns-clause-survives : goal.returns-clause-survives
returns-clause-survives g c = only_reads book_schema of_request_text of_request_asks.plain (Blob c.args.request.now ∷ []) (state g.S.Store c.args.conn.now)
    (state g.S.Store c.query_all.new.self) (c.query_all.ensures.survives)
