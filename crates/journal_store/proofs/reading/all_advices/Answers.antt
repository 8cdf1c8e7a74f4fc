use Rattle.sqlite.specs.Held.{state}
use Rattle.journal_store.specs.Texts.{all_advices_text}
use Rattle.journal_store.proofs.TextFacts.{all_advices_asks, first_advices_asks}
use Rattle.journal_store.proofs.ReadLemmas.{reads_advices, same_either, reads_either}
use Rattle.journal_store.proofs.reading.all_advices.Goals as goal

pub returns-clause-rows : goal.returns-clause-rows
returns-clause-rows g c clean ready = reads_advices (state g.S.Store c.args.conn.now) (state g.S.Store c.query_all.new.self) c.query_all.result ready
    (c.query_all.ensures.ok clean)

pub returns-clause-same : goal.returns-clause-same
returns-clause-same g c clean ready = same_either all_advices_text first_advices_asks.plain all_advices_asks.plain (state g.S.Store c.args.conn.now)
    (state g.S.Store c.query_all.new.self) c.query_all.result ready (c.query_all.ensures.ok clean)

pub returns-clause-survives : goal.returns-clause-survives
returns-clause-survives g c = reads_either all_advices_text first_advices_asks.plain all_advices_asks.plain (state g.S.Store c.args.conn.now)
    (state g.S.Store c.query_all.new.self) c.query_all.ensures.survives
