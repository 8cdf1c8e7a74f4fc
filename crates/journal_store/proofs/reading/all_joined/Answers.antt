use Rattle.sqlite.specs.Held.{state}
use Rattle.journal_tables.specs.Schema.{journal_schema}
use Rattle.journal_store.specs.Texts.{all_joined_text}
use Rattle.journal_store.proofs.TextFacts.{all_joined_asks}
use Rattle.journal_store.proofs.ReadLemmas.{reads_joined, same_if, only_reads}
use Rattle.journal_store.proofs.reading.all_joined.Goals as goal

pub returns-clause-rows : goal.returns-clause-rows
returns-clause-rows g c clean ready = reads_joined (state g.S.Store c.args.conn.now) (state g.S.Store c.query_all.new.self) c.query_all.result ready
    (c.query_all.ensures.ok clean)

pub returns-clause-same : goal.returns-clause-same
returns-clause-same g c clean ready = same_if all_joined_text journal_schema all_joined_asks.plain (state g.S.Store c.args.conn.now)
    (state g.S.Store c.query_all.new.self) ready.schema c.query_all.result (c.query_all.ensures.ok clean)

pub returns-clause-survives : goal.returns-clause-survives
returns-clause-survives g c = only_reads all_joined_text all_joined_asks.plain (state g.S.Store c.args.conn.now) (state g.S.Store c.query_all.new.self)
    c.query_all.ensures.survives
