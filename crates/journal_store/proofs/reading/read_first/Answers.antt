use Rattle.std.proofs.Common.{inl}
use Rattle.sqlite.specs.Effect.{Database}
use Rattle.sqlite.specs.Held.{state}
use Rattle.journal_tables.specs.Converting.{IsFirst}
use Rattle.journal_store.specs.Stored.{IsEither}
use Rattle.journal_store.proofs.ReadLemmas.{Reading, as_one, reads_on, then_reading, weaker_reads}
use Rattle.journal_store.proofs.reading.read_first.Goals as goal

either : (db : Database) → IsFirst db → IsEither db
either db h = inl h

pub returns-clause-survives : goal.returns-clause-survives
returns-clause-survives g c =
    let all : Reading IsFirst (state g.S.Store c.args.conn.now) (state g.S.Store c.all_advices.new.conn) =
    (then_reading IsFirst (state g.S.Store c.args.conn.now) (state g.S.Store c.all_shelf.new.conn) (state g.S.Store c.all_advices.new.conn)
    (then_reading IsFirst (state g.S.Store c.args.conn.now) (state g.S.Store c.all_tx.new.conn) (state g.S.Store c.all_shelf.new.conn)
    (then_reading IsFirst (state g.S.Store c.args.conn.now) (state g.S.Store c.all_meta.new.conn) (state g.S.Store c.all_tx.new.conn)
    (then_reading IsFirst (state g.S.Store c.args.conn.now) (state g.S.Store c.all_members.new.conn) (state g.S.Store c.all_meta.new.conn)
    ((λ clean ready. c.in_ok-all_members.ensures.same clean ready, c.all_members.ensures.survives))
    (as_one IsFirst either (state g.S.Store c.all_members.new.conn) (state g.S.Store c.all_meta.new.conn)
    (λ clean e. c.in_ok-all_meta.ensures.same clean e) c.all_meta.ensures.survives))
    (as_one IsFirst either (state g.S.Store c.all_meta.new.conn) (state g.S.Store c.all_tx.new.conn) (λ clean e. c.in_ok-all_tx.ensures.same clean e)
    c.all_tx.ensures.survives)) (as_one IsFirst either (state g.S.Store c.all_tx.new.conn) (state g.S.Store c.all_shelf.new.conn)
    (λ clean e. c.in_ok-all_shelf.ensures.same clean e) c.all_shelf.ensures.survives))
    (as_one IsFirst either (state g.S.Store c.all_shelf.new.conn) (state g.S.Store c.all_advices.new.conn)
    (λ clean e. c.in_ok-all_advices.ensures.same clean e) c.all_advices.ensures.survives)) in all.1

pub returns-in_err-all_advices-clause-survives : goal.returns-in_err-all_advices-clause-survives
returns-in_err-all_advices-clause-survives g c =
    let before : Reading IsFirst (state g.S.Store c.args.conn.now) (state g.S.Store c.all_shelf.new.conn) =
    (then_reading IsFirst (state g.S.Store c.args.conn.now) (state g.S.Store c.all_tx.new.conn) (state g.S.Store c.all_shelf.new.conn)
    (then_reading IsFirst (state g.S.Store c.args.conn.now) (state g.S.Store c.all_meta.new.conn) (state g.S.Store c.all_tx.new.conn)
    (then_reading IsFirst (state g.S.Store c.args.conn.now) (state g.S.Store c.all_members.new.conn) (state g.S.Store c.all_meta.new.conn)
    ((λ clean ready. c.in_ok-all_members.ensures.same clean ready, c.all_members.ensures.survives))
    (as_one IsFirst either (state g.S.Store c.all_members.new.conn) (state g.S.Store c.all_meta.new.conn)
    (λ clean e. c.in_ok-all_meta.ensures.same clean e) c.all_meta.ensures.survives))
    (as_one IsFirst either (state g.S.Store c.all_meta.new.conn) (state g.S.Store c.all_tx.new.conn) (λ clean e. c.in_ok-all_tx.ensures.same clean e)
    c.all_tx.ensures.survives)) (as_one IsFirst either (state g.S.Store c.all_tx.new.conn) (state g.S.Store c.all_shelf.new.conn)
    (λ clean e. c.in_ok-all_shelf.ensures.same clean e) c.all_shelf.ensures.survives)) in
    reads_on IsFirst (state g.S.Store c.args.conn.now) (state g.S.Store c.all_shelf.new.conn) (state g.S.Store c.all_advices.new.conn) before.0 before.1
    (weaker_reads IsFirst either (state g.S.Store c.all_shelf.new.conn) (state g.S.Store c.all_advices.new.conn) c.all_advices.ensures.survives)
