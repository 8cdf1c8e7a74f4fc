use Rattle.std.proofs.Common.{◌∙◌, inl, inr, arith}
use Rattle.sqlite.specs.State.{HasCleanDisk}
use Rattle.sqlite.specs.Held.{state}
use Rattle.journal_store.proofs.Opens.{opens_kept, opens_sound}
use Rattle.journal_store.proofs.journal.Journal.write.Goals as goal

pub returns-in-Err-clause-stop : goal.returns-in-Err-clause-stop
returns-in-Err-clause-stop g c clean fine t left =
    let inside = c.self.inside.conn in
    let early : HasCleanDisk (state g.S.Store inside) = omega (arith, c.write_all.ensures.crash.clean) in
    let ready = c.self.invariant.ready c.if-self.false early in
    rw (← c.self.view_is)
    (elim (c.write_all.ensures.crash.crash clean left.0 left.1) [
      | inl was ↦ inl (opens_kept (state g.S.Store inside).now (state g.S.Store inside).committed left.0 t ready.now ready.committed
          (g.met.S.Store.settled inside.store left.0 ready.is_open was) left.2)
      | inr made ↦ inr (
          let there = made ready.is_open ready.now (c.self.invariant.stands c.if-self.false early)
          (c.self.invariant.named c.if-self.false early c.if-not-self.false) in
          opens_sound left.0 t there.0 left.2 ∙ there.1
          )
    ])

pub returns-in-Ok-clause-wrote : goal.returns-in-Ok-clause-wrote
returns-in-Ok-clause-wrote g c clean =
    let early : HasCleanDisk (state g.S.Store c.self.inside.conn) = omega (arith, c.write_all.ensures.crash.clean) in
    let ready = c.self.invariant.ready c.if-self.false early in
    rw (← c.self.view_is) ((c.in-Ok.ensures.wrote clean ready.now ready.is_open (c.self.invariant.stands c.if-self.false early)
    (c.self.invariant.named c.if-self.false early c.if-not-self.false)).tables)

pub returns-in-Ok-clause-kept : goal.returns-in-Ok-clause-kept
returns-in-Ok-clause-kept g c clean t left =
    let early : HasCleanDisk (state g.S.Store c.self.inside.conn) = omega (arith, c.write_all.ensures.crash.clean) in
    let ready = c.self.invariant.ready c.if-self.false early in
    let wrote = c.in-Ok.ensures.wrote clean ready.now ready.is_open (c.self.invariant.stands c.if-self.false early)
    (c.self.invariant.named c.if-self.false early c.if-not-self.false) in
    let new = state g.S.Store c.write_all.new.conn in
    opens_kept new.now new.committed left.0 t wrote.now wrote.committed (g.met.S.Store.settled c.write_all.new.conn.store left.0 wrote.is_open left.1) left.2

pub returns-in-Ok-clause-stop : goal.returns-in-Ok-clause-stop
returns-in-Ok-clause-stop g c clean fine t left =
    let early : HasCleanDisk (state g.S.Store c.self.inside.conn) = omega (arith, c.write_all.ensures.crash.clean) in
    let ready = c.self.invariant.ready c.if-self.false early in
    rw (← c.self.view_is) (inr (returns-in-Ok-clause-kept g c clean t left
    ∙ (c.in-Ok.ensures.wrote clean ready.now ready.is_open (c.self.invariant.stands c.if-self.false early)
    (c.self.invariant.named c.if-self.false early c.if-not-self.false)).tables))

pub returns-then-not-self-clause-stop : goal.returns-then-not-self-clause-stop
returns-then-not-self-clause-stop g c = rw (← c.self.view_is) (λ clean fine t left.
    let ready = c.self.invariant.ready c.if-self.false clean in
    let inside = state g.S.Store c.self.inside.conn in
    inl (opens_kept inside.now inside.committed left.0 t ready.now ready.committed (g.met.S.Store.settled c.self.inside.conn.store left.0 ready.is_open
    left.1) left.2))

pub returns-then-is_empty-clause-kept : goal.returns-then-is_empty-clause-kept
returns-then-is_empty-clause-kept g c = rw (← c.self.view_is) (λ clean t left.
    let ready = c.self.invariant.ready c.if-self.false clean in
    let inside = state g.S.Store c.self.inside.conn in
    opens_kept inside.now inside.committed left.0 t ready.now ready.committed
    (g.met.S.Store.settled c.self.inside.conn.store left.0 ready.is_open left.1) left.2)

pub returns-then-is_empty-clause-stop : goal.returns-then-is_empty-clause-stop
returns-then-is_empty-clause-stop g c clean fine t left = inl (returns-then-is_empty-clause-kept g c clean t left)

pub invariant_of-self-in-Ok : goal.invariant_of-self-in-Ok
invariant_of-self-in-Ok g c = record {
  autocommit = c.write_all.ensures.autocommit;
  ready = λ fine clean.
      let early : HasCleanDisk (state g.S.Store c.self.inside.conn) = omega (arith, c.write_all.ensures.crash.clean) in
      let ready = c.self.invariant.ready c.if-self.false early in
      let wrote = c.in-Ok.ensures.wrote clean ready.now ready.is_open (c.self.invariant.stands c.if-self.false early)
      (c.self.invariant.named c.if-self.false early c.if-not-self.false) in
      record { is_open = wrote.is_open; now = wrote.now; committed = wrote.committed };
  stands = λ fine clean.
      let early : HasCleanDisk (state g.S.Store c.self.inside.conn) = omega (arith, c.write_all.ensures.crash.clean) in
      let ready = c.self.invariant.ready c.if-self.false early in
      (c.in-Ok.ensures.wrote clean ready.now ready.is_open (c.self.invariant.stands c.if-self.false early)
      (c.self.invariant.named c.if-self.false early c.if-not-self.false)).known;
  named = λ fine clean knows.
      let early : HasCleanDisk (state g.S.Store c.self.inside.conn) = omega (arith, c.write_all.ensures.crash.clean) in
      let ready = c.self.invariant.ready c.if-self.false early in
      (c.in-Ok.ensures.wrote clean ready.now ready.is_open (c.self.invariant.stands c.if-self.false early)
      (c.self.invariant.named c.if-self.false early c.if-not-self.false)).parts_are;
}
