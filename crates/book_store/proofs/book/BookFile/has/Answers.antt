use Rattle.std.proofs.Common.{inl, inr, arith}
use Rattle.sqlite.specs.State.{HasCleanDisk}
use Rattle.sqlite.specs.Held.{state}
use Rattle.book_store.proofs.KeptLemmas.{opens_kept}
use Rattle.book_store.proofs.book.BookFile.has.Goals as goal

pub returns-in-Ok-clause-left : goal.returns-in-Ok-clause-left
returns-in-Ok-clause-left g c = rw (← c.self.view_is) (λ clean fine salt t left.
    let inside = c.self.inside.conn in
    let early : HasCleanDisk (state g.S.Store inside) = omega (arith, c.has.ensures.survives.clean) in
    let ready = c.self.invariant.ready c.if-self.false early in
    elim (c.has.ensures.survives.crash clean left.0 left.1) [
      | inl was ↦ opens_kept salt (state g.S.Store inside).now (state g.S.Store inside).committed left.0 t ready.now ready.committed
          (g.met.S.Store.settled inside.store left.0 ready.is_open was) left.2
      | inr never ↦ absurd (never ready.now)
    ])

pub returns-in-Err-clause-left : goal.returns-in-Err-clause-left
returns-in-Err-clause-left g c = rw (← c.self.view_is) (λ clean fine salt t left.
    let inside = c.self.inside.conn in
    let early : HasCleanDisk (state g.S.Store inside) = omega (arith, c.has.ensures.survives.clean) in
    let ready = c.self.invariant.ready c.if-self.false early in
    elim (c.has.ensures.survives.crash clean left.0 left.1) [
      | inl was ↦ opens_kept salt (state g.S.Store inside).now (state g.S.Store inside).committed left.0 t ready.now ready.committed
          (g.met.S.Store.settled inside.store left.0 ready.is_open was) left.2
      | inr never ↦ absurd (never ready.now)
    ])
