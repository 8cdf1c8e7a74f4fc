use Rattle.std.proofs.Common.{inr}
use Rattle.sqlite.specs.Effect.{Database}
use Rattle.sqlite.specs.Held.{state}
use Rattle.journal_tables.specs.Steps.{IsJournal}
use Rattle.journal_store.specs.Stored.{IsEither}
use Rattle.journal_store.proofs.ReadLemmas.{Reading, as_one, reads_on, then_reading, weaker_reads}
use Rattle.journal_store.proofs.reading.read_all.Goals as goal

either : (db : Database) → IsJournal db → IsEither db
either db h = inr h

pub returns-clause-survives : goal.returns-clause-survives
returns-clause-survives g c =
    let all : Reading IsJournal (state g.S.Store c.args.conn.now) (state g.S.Store c.all_advices.new.conn) =
    (then_reading IsJournal (state g.S.Store c.args.conn.now) (state g.S.Store c.all_shelf.new.conn) (state g.S.Store c.all_advices.new.conn)
    (then_reading IsJournal (state g.S.Store c.args.conn.now) (state g.S.Store c.all_tx.new.conn) (state g.S.Store c.all_shelf.new.conn)
    (then_reading IsJournal (state g.S.Store c.args.conn.now) (state g.S.Store c.all_meta.new.conn) (state g.S.Store c.all_tx.new.conn)
    (then_reading IsJournal (state g.S.Store c.args.conn.now) (state g.S.Store c.all_named.new.conn) (state g.S.Store c.all_meta.new.conn)
    (then_reading IsJournal (state g.S.Store c.args.conn.now) (state g.S.Store c.all_parts.new.conn) (state g.S.Store c.all_named.new.conn)
    ((λ clean ready. c.in_ok-parts.ensures.same clean ready, c.all_parts.ensures.survives))
    ((λ clean ready. c.in_ok-members.ensures.same clean ready, c.all_named.ensures.survives)))
    (as_one IsJournal either (state g.S.Store c.all_named.new.conn) (state g.S.Store c.all_meta.new.conn)
    (λ clean e. c.in_ok-all_meta.ensures.same clean e) c.all_meta.ensures.survives))
    (as_one IsJournal either (state g.S.Store c.all_meta.new.conn) (state g.S.Store c.all_tx.new.conn) (λ clean e. c.in_ok-all_tx.ensures.same clean e)
    c.all_tx.ensures.survives)) (as_one IsJournal either (state g.S.Store c.all_tx.new.conn) (state g.S.Store c.all_shelf.new.conn)
    (λ clean e. c.in_ok-all_shelf.ensures.same clean e) c.all_shelf.ensures.survives))
    (as_one IsJournal either (state g.S.Store c.all_shelf.new.conn) (state g.S.Store c.all_advices.new.conn)
    (λ clean e. c.in_ok-all_advices.ensures.same clean e) c.all_advices.ensures.survives)) in all.1

pub returns-in_err-all_shelf-clause-survives : goal.returns-in_err-all_shelf-clause-survives
returns-in_err-all_shelf-clause-survives g c =
    let before : Reading IsJournal (state g.S.Store c.args.conn.now) (state g.S.Store c.all_tx.new.conn) =
    (then_reading IsJournal (state g.S.Store c.args.conn.now) (state g.S.Store c.all_meta.new.conn) (state g.S.Store c.all_tx.new.conn)
    (then_reading IsJournal (state g.S.Store c.args.conn.now) (state g.S.Store c.all_named.new.conn) (state g.S.Store c.all_meta.new.conn)
    (then_reading IsJournal (state g.S.Store c.args.conn.now) (state g.S.Store c.all_parts.new.conn) (state g.S.Store c.all_named.new.conn)
    ((λ clean ready. c.in_ok-parts.ensures.same clean ready, c.all_parts.ensures.survives))
    ((λ clean ready. c.in_ok-members.ensures.same clean ready, c.all_named.ensures.survives)))
    (as_one IsJournal either (state g.S.Store c.all_named.new.conn) (state g.S.Store c.all_meta.new.conn)
    (λ clean e. c.in_ok-all_meta.ensures.same clean e) c.all_meta.ensures.survives))
    (as_one IsJournal either (state g.S.Store c.all_meta.new.conn) (state g.S.Store c.all_tx.new.conn) (λ clean e. c.in_ok-all_tx.ensures.same clean e)
    c.all_tx.ensures.survives)) in
    reads_on IsJournal (state g.S.Store c.args.conn.now) (state g.S.Store c.all_tx.new.conn) (state g.S.Store c.all_shelf.new.conn) before.0 before.1
    (weaker_reads IsJournal either (state g.S.Store c.all_tx.new.conn) (state g.S.Store c.all_shelf.new.conn) c.all_shelf.ensures.survives)

pub returns-in_err-all_advices-clause-survives : goal.returns-in_err-all_advices-clause-survives
returns-in_err-all_advices-clause-survives g c =
    let before : Reading IsJournal (state g.S.Store c.args.conn.now) (state g.S.Store c.all_shelf.new.conn) =
    (then_reading IsJournal (state g.S.Store c.args.conn.now) (state g.S.Store c.all_tx.new.conn) (state g.S.Store c.all_shelf.new.conn)
    (then_reading IsJournal (state g.S.Store c.args.conn.now) (state g.S.Store c.all_meta.new.conn) (state g.S.Store c.all_tx.new.conn)
    (then_reading IsJournal (state g.S.Store c.args.conn.now) (state g.S.Store c.all_named.new.conn) (state g.S.Store c.all_meta.new.conn)
    (then_reading IsJournal (state g.S.Store c.args.conn.now) (state g.S.Store c.all_parts.new.conn) (state g.S.Store c.all_named.new.conn)
    ((λ clean ready. c.in_ok-parts.ensures.same clean ready, c.all_parts.ensures.survives))
    ((λ clean ready. c.in_ok-members.ensures.same clean ready, c.all_named.ensures.survives)))
    (as_one IsJournal either (state g.S.Store c.all_named.new.conn) (state g.S.Store c.all_meta.new.conn)
    (λ clean e. c.in_ok-all_meta.ensures.same clean e) c.all_meta.ensures.survives))
    (as_one IsJournal either (state g.S.Store c.all_meta.new.conn) (state g.S.Store c.all_tx.new.conn) (λ clean e. c.in_ok-all_tx.ensures.same clean e)
    c.all_tx.ensures.survives)) (as_one IsJournal either (state g.S.Store c.all_tx.new.conn) (state g.S.Store c.all_shelf.new.conn)
    (λ clean e. c.in_ok-all_shelf.ensures.same clean e) c.all_shelf.ensures.survives)) in
    reads_on IsJournal (state g.S.Store c.args.conn.now) (state g.S.Store c.all_shelf.new.conn) (state g.S.Store c.all_advices.new.conn) before.0 before.1
    (weaker_reads IsJournal either (state g.S.Store c.all_shelf.new.conn) (state g.S.Store c.all_advices.new.conn) c.all_advices.ensures.survives)
