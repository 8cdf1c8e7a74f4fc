use Rattle.sqlite.specs.Held.{state}
use Rattle.journal_tables.specs.Schema.{journal_schema}
use Rattle.journal_store.specs.Texts.{all_parts_text}
use Rattle.journal_store.proofs.TextFacts.{all_parts_asks}
use Rattle.journal_store.proofs.ReadLemmas.{reads_parts, same_if, only_reads}
use Rattle.journal_store.proofs.reading.all_parts.Goals as goal

pub returns-clause-rows : goal.returns-clause-rows
returns-clause-rows g c clean ready = reads_parts (state g.S.Store c.args.conn.now) (state g.S.Store c.query_all.new.self) c.query_all.result ready
    (c.query_all.ensures.ok clean)

pub returns-clause-same : goal.returns-clause-same
returns-clause-same g c clean ready = same_if all_parts_text journal_schema all_parts_asks.plain (state g.S.Store c.args.conn.now)
    (state g.S.Store c.query_all.new.self) ready.schema c.query_all.result (c.query_all.ensures.ok clean)

pub returns-clause-survives : goal.returns-clause-survives
returns-clause-survives g c = only_reads all_parts_text all_parts_asks.plain (state g.S.Store c.args.conn.now) (state g.S.Store c.query_all.new.self)
    c.query_all.ensures.survives
