use Rattle.sqlite.specs.Held.{state}
use Rattle.journal_store.specs.Texts.{all_tx_text}
use Rattle.journal_store.proofs.TextFacts.{all_tx_asks, first_tx_asks}
use Rattle.journal_store.proofs.ReadLemmas.{reads_tx, same_either, reads_either}
use Rattle.journal_store.proofs.reading.all_tx.Goals as goal

pub returns-clause-rows : goal.returns-clause-rows
returns-clause-rows g c clean ready = reads_tx (state g.S.Store c.args.conn.now) (state g.S.Store c.query_all.new.self) c.query_all.result ready
    (c.query_all.ensures.ok clean)

pub returns-clause-same : goal.returns-clause-same
returns-clause-same g c clean ready = same_either all_tx_text first_tx_asks.plain all_tx_asks.plain (state g.S.Store c.args.conn.now)
    (state g.S.Store c.query_all.new.self) c.query_all.result ready (c.query_all.ensures.ok clean)

pub returns-clause-survives : goal.returns-clause-survives
returns-clause-survives g c = reads_either all_tx_text first_tx_asks.plain all_tx_asks.plain (state g.S.Store c.args.conn.now)
    (state g.S.Store c.query_all.new.self) c.query_all.ensures.survives
