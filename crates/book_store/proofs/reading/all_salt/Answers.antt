use Rattle.std.proofs.Common.{[]}
use Rattle.sqlite.specs.Held.{state}
use Rattle.store_base.proofs.ReadLemmas.{only_reads, same_if}
use Rattle.book_store.specs.Schema.{book_schema}
use Rattle.book_store.specs.Texts.{all_salt_text}
use Rattle.book_store.proofs.QueryLemmas.{reads_salt}
use Rattle.book_store.proofs.TextFacts.{all_salt_asks, salt_names, salt_query}
use Rattle.book_store.proofs.reading.all_salt.Goals as goal

pub returns-clause-rows : goal.returns-clause-rows
returns-clause-rows g c clean ready = reads_salt (state g.S.Store c.args.conn.now) (state g.S.Store c.query_all.new.self) c.query_all.result ready
    (c.query_all.ensures.ok clean)

pub returns-clause-same : goal.returns-clause-same
returns-clause-same g c clean ready = same_if book_schema all_salt_text salt_query salt_names all_salt_asks (state g.S.Store c.args.conn.now)
    (state g.S.Store c.query_all.new.self) ready.schema_is [] c.query_all.result (c.query_all.ensures.ok clean)

pub returns-clause-survives : goal.returns-clause-survives
returns-clause-survives g c = only_reads book_schema all_salt_text all_salt_asks.plain [] (state g.S.Store c.args.conn.now)
    (state g.S.Store c.query_all.new.self) c.query_all.ensures.survives
