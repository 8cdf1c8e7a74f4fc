use Rattle.sqlite.specs.Held.{state}
use Rattle.journal_store.specs.Texts.{all_meta_text}
use Rattle.journal_store.proofs.TextFacts.{all_meta_asks, first_meta_asks}
use Rattle.journal_store.proofs.ReadLemmas.{reads_meta, same_either, reads_either}
use Rattle.journal_store.proofs.reading.all_meta.Goals as goal

pub returns-clause-rows : goal.returns-clause-rows
returns-clause-rows g c clean ready = reads_meta (state g.S.Store c.args.conn.now) (state g.S.Store c.query_all.new.self) c.query_all.result ready
    (c.query_all.ensures.ok clean)

pub returns-clause-same : goal.returns-clause-same
returns-clause-same g c clean ready = same_either all_meta_text first_meta_asks.plain all_meta_asks.plain (state g.S.Store c.args.conn.now)
    (state g.S.Store c.query_all.new.self) c.query_all.result ready (c.query_all.ensures.ok clean)

pub returns-clause-survives : goal.returns-clause-survives
returns-clause-survives g c = reads_either all_meta_text first_meta_asks.plain all_meta_asks.plain (state g.S.Store c.args.conn.now)
    (state g.S.Store c.query_all.new.self) c.query_all.ensures.survives
