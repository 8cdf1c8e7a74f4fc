use Rattle.std.proofs.Common.{◌∙◌, inl, inr, arith, to_z-of_z}
use Rattle.sqlite.specs.State.{HasCleanDisk}
use Rattle.sqlite.specs.Held.{state}
use Rattle.book_store.specs.Lines.{marked}
use Rattle.book_store.proofs.KeptLemmas.{edited, opens_book, opens_kept}
use Rattle.book_store.proofs.book.BookFile.mark.Goals as goal

pub returns-in-Err-clause-stop : goal.returns-in-Err-clause-stop
returns-in-Err-clause-stop g c clean fine salt t left =
    let inside = c.self.inside.conn in
    let early : HasCleanDisk (state g.S.Store inside) = omega (arith, c.mark.ensures.crash.clean) in
    let ready = c.self.invariant.ready c.if-self.false early in
    rw (← c.self.view_is)
    (elim (rw (to_z-of_z c.ranges.id) at (c.mark.ensures.crash.crash clean left.0 left.1)) [
      | inl was ↦ inl (opens_kept salt (state g.S.Store inside).now (state g.S.Store inside).committed left.0 t ready.now ready.committed
          (g.met.S.Store.settled inside.store left.0 ready.is_open was) left.2)
      | inr made ↦ inr (
          let there = made ready.now in
          opens_book salt left.0 t there.0 left.2 ∙ edited (marked c.args.id) (state g.S.Store inside).now.trees left.0 there.1
          )
    ])

pub returns-in-Ok-clause-wrote : goal.returns-in-Ok-clause-wrote
returns-in-Ok-clause-wrote g c clean =
    let inside = state g.S.Store c.self.inside.conn in
    let early : HasCleanDisk inside = omega (arith, c.mark.ensures.crash.clean) in
    let ready = c.self.invariant.ready c.if-self.false early in
    rw (← c.self.view_is) (edited (marked c.args.id) inside.now.trees (state g.S.Store c.mark.new.conn).now.trees
    (rw (to_z-of_z c.ranges.id) at (c.in-Ok.ensures.changed clean ready.now)).made)

pub returns-in-Ok-clause-kept : goal.returns-in-Ok-clause-kept
returns-in-Ok-clause-kept g c clean salt t left =
    let early : HasCleanDisk (state g.S.Store c.self.inside.conn) = omega (arith, c.mark.ensures.crash.clean) in
    let ready = c.self.invariant.ready c.if-self.false early in
    let all = (c.in-Ok.ensures.changed clean ready.now).all in
    let new = state g.S.Store c.mark.new.conn in
    opens_kept salt new.now new.committed left.0 t all.now all.committed (g.met.S.Store.settled c.mark.new.conn.store left.0 all.is_open left.1) left.2

pub returns-in-Ok-clause-stop : goal.returns-in-Ok-clause-stop
returns-in-Ok-clause-stop g c clean fine salt t left =
    let inside = state g.S.Store c.self.inside.conn in
    let early : HasCleanDisk inside = omega (arith, c.mark.ensures.crash.clean) in
    let ready = c.self.invariant.ready c.if-self.false early in
    rw (← c.self.view_is) (inr (returns-in-Ok-clause-kept g c clean salt t left
    ∙ edited (marked c.args.id) inside.now.trees (state g.S.Store c.mark.new.conn).now.trees
    (rw (to_z-of_z c.ranges.id) at (c.in-Ok.ensures.changed clean ready.now)).made))

pub invariant_of-self : goal.invariant_of-self
invariant_of-self g c = record {
  autocommit = c.mark.ensures.autocommit;
  ready = λ fine clean.
      let early : HasCleanDisk (state g.S.Store c.self.inside.conn) = omega (arith, c.mark.ensures.crash.clean) in
      let ready = c.self.invariant.ready c.if-self.false early in
      (c.in-Ok.ensures.changed clean ready.now).all;
  salted = λ fine clean.
      let early : HasCleanDisk (state g.S.Store c.self.inside.conn) = omega (arith, c.mark.ensures.crash.clean) in
      let ready = c.self.invariant.ready c.if-self.false early in
      (c.in-Ok.ensures.changed clean ready.now).made.salt ∙ c.self.invariant.salted c.if-self.false early;
}
