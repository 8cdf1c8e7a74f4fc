use Rattle.sqlite.specs.Held.{state}
use Rattle.journal_tables.specs.Schema.{first_schema}
use Rattle.journal_store.specs.Texts.{all_members_text}
use Rattle.journal_store.proofs.TextFacts.{all_members_asks}
use Rattle.journal_store.proofs.ReadLemmas.{reads_members, same_if, reads_first}
use Rattle.journal_store.proofs.reading.all_members.Goals as goal

pub returns-clause-rows : goal.returns-clause-rows
returns-clause-rows g c clean ready = reads_members (state g.S.Store c.args.conn.now) (state g.S.Store c.query_all.new.self) c.query_all.result ready
    (c.query_all.ensures.ok clean)

pub returns-clause-same : goal.returns-clause-same
returns-clause-same g c clean ready = same_if all_members_text first_schema all_members_asks.plain (state g.S.Store c.args.conn.now)
    (state g.S.Store c.query_all.new.self) ready.schema_is c.query_all.result (c.query_all.ensures.ok clean)

pub returns-clause-survives : goal.returns-clause-survives
returns-clause-survives g c = reads_first all_members_text all_members_asks.plain (state g.S.Store c.args.conn.now) (state g.S.Store c.query_all.new.self)
    c.query_all.ensures.survives
