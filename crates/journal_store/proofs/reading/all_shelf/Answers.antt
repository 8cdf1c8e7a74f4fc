use Rattle.sqlite.specs.Held.{state}
use Rattle.journal_store.specs.Texts.{all_shelf_text}
use Rattle.journal_store.proofs.TextFacts.{all_shelf_asks, first_shelf_asks}
use Rattle.journal_store.proofs.ReadLemmas.{reads_shelf, same_either, reads_either}
use Rattle.journal_store.proofs.reading.all_shelf.Goals as goal

pub returns-clause-rows : goal.returns-clause-rows
returns-clause-rows g c clean ready = reads_shelf (state g.S.Store c.args.conn.now) (state g.S.Store c.query_all.new.self) c.query_all.result ready
    (c.query_all.ensures.ok clean)

pub returns-clause-same : goal.returns-clause-same
returns-clause-same g c clean ready = same_either all_shelf_text first_shelf_asks.plain all_shelf_asks.plain (state g.S.Store c.args.conn.now)
    (state g.S.Store c.query_all.new.self) c.query_all.result ready (c.query_all.ensures.ok clean)

pub returns-clause-survives : goal.returns-clause-survives
returns-clause-survives g c = reads_either all_shelf_text first_shelf_asks.plain all_shelf_asks.plain (state g.S.Store c.args.conn.now)
    (state g.S.Store c.query_all.new.self) c.query_all.ensures.survives
