use Rattle.std.proofs.Common.{◌∙◌, sym, ap, subst, inl, inr, arith, true≢false}
use Rattle.std.proofs.lemmas.Bool.{both_ways}
use Rattle.sqlite.specs.Effect.{Database}
use Rattle.sqlite.specs.State.{HasCleanDisk}
use Rattle.sqlite.specs.Held.{state}
use Rattle.journal_rows.specs.Tables.{tables_of}
use Rattle.journal_tables.specs.LastPut.{IsKnown}
use Rattle.journal_tables.specs.Parts.{AreParts}
use Rattle.journal_tables.specs.Steps.{IsJournal}
use Rattle.journal_store.specs.Means.{Means}
use Rattle.journal_store.proofs.Opens.{opens_kept}
use Rattle.journal_store.proofs.ViewReads.{sound_if, stands_if}
use Rattle.journal_store.proofs.journal.Journal.view.Goals as goal

pub returns-in-Ok-clause-failed : goal.returns-in-Ok-clause-failed
returns-in-Ok-clause-failed g c = rw (← c.self.view_is) (λ is. absurd (both_ways _ c.if-self.false is))

pub returns-in-Ok-clause-clean : goal.returns-in-Ok-clause-clean
returns-in-Ok-clause-clean g c = rw (← c.self.view_is) c.read_all.ensures.survives.clean

pub returns-in-Ok-clause-same : goal.returns-in-Ok-clause-same
returns-in-Ok-clause-same g c = rw (← c.self.view_is) (λ clean fine.
    let early : HasCleanDisk (state g.S.Store c.self.inside.conn) = omega (arith, c.read_all.ensures.survives.clean) in
    let ready = c.self.invariant.ready c.if-self.false early in
    ap (λ (d : Database). tables_of d.trees) (c.in-Ok.ensures.same clean ready.now).0.now_is)

pub returns-in-Ok-clause-left : goal.returns-in-Ok-clause-left
returns-in-Ok-clause-left g c = rw (← c.self.view_is) (λ clean fine t left.
    let inside = c.self.inside.conn in
    let early : HasCleanDisk (state g.S.Store inside) = omega (arith, c.read_all.ensures.survives.clean) in
    let ready = c.self.invariant.ready c.if-self.false early in
    elim (c.read_all.ensures.survives.crash clean left.0 left.1) [
      | inl was ↦ opens_kept (state g.S.Store inside).now (state g.S.Store inside).committed left.0 t ready.now ready.committed
          (g.met.S.Store.settled inside.store left.0 ready.is_open was) left.2
      | inr never ↦ absurd (never ready.now)
    ])

pub returns-in-Ok-clause-means : goal.returns-in-Ok-clause-means
returns-in-Ok-clause-means g c = rw (← c.self.view_is) (λ clean.
    let early : HasCleanDisk (state g.S.Store c.self.inside.conn) = omega (arith, c.read_all.ensures.survives.clean) in
    let ready = c.self.invariant.ready c.if-self.false early in
    subst (λ failed. Means (tables_of (state g.S.Store c.self.inside.conn).now.trees) failed c.viewed.result) (sym c.if-self.false)
    (c.viewed.ensures.means _ (c.in-Ok.ensures.rows clean ready.now)))

pub returns-in-Ok-clause-stands : goal.returns-in-Ok-clause-stands
returns-in-Ok-clause-stands g c = rw (← c.self.view_is) (λ clean.
    let early : HasCleanDisk (state g.S.Store c.self.inside.conn) = omega (arith, c.read_all.ensures.survives.clean) in
    let ready = c.self.invariant.ready c.if-self.false early in
    stands_if (state g.S.Store c.self.inside.conn).now c.viewed.result ready.now (c.viewed.ensures.means _ (c.in-Ok.ensures.rows clean ready.now)))

pub returns-in-Ok-clause-sound : goal.returns-in-Ok-clause-sound
returns-in-Ok-clause-sound g c clean =
    let early : HasCleanDisk (state g.S.Store c.self.inside.conn) = omega (arith, c.read_all.ensures.survives.clean) in
    let ready = c.self.invariant.ready c.if-self.false early in
    sound_if (state g.S.Store c.self.inside.conn).now c.viewed.result ready.now (c.viewed.ensures.means _ (c.in-Ok.ensures.rows clean ready.now))
    c.viewed.ensures.last

pub returns-in-Err-clause-failed : goal.returns-in-Err-clause-failed
returns-in-Err-clause-failed g c = rw (← c.self.view_is) (λ is. absurd (both_ways _ c.if-self.false is))

pub returns-in-Err-clause-clean : goal.returns-in-Err-clause-clean
returns-in-Err-clause-clean g c = rw (← c.self.view_is) c.read_all.ensures.survives.clean

pub returns-in-Err-clause-left : goal.returns-in-Err-clause-left
returns-in-Err-clause-left g c = rw (← c.self.view_is) (λ clean fine t left.
    let inside = c.self.inside.conn in
    let early : HasCleanDisk (state g.S.Store inside) = omega (arith, c.read_all.ensures.survives.clean) in
    let ready = c.self.invariant.ready c.if-self.false early in
    elim (c.read_all.ensures.survives.crash clean left.0 left.1) [
      | inl was ↦ opens_kept (state g.S.Store inside).now (state g.S.Store inside).committed left.0 t ready.now ready.committed
          (g.met.S.Store.settled inside.store left.0 ready.is_open was) left.2
      | inr never ↦ absurd (never ready.now)
    ])

pub invariant_of-self : goal.invariant_of-self
invariant_of-self g c = record {
  autocommit = c.read_all.ensures.mode c.self.invariant.autocommit;
  ready = λ fine clean.
      let early : HasCleanDisk (state g.S.Store c.self.inside.conn) = omega (arith, c.read_all.ensures.survives.clean) in
      let ready = c.self.invariant.ready c.if-self.false early in
      let same = (c.in-Ok.ensures.same clean ready.now).0 in
      record {
        is_open = same.is_open;
        now = subst IsJournal (sym same.now_is) ready.now;
        committed = same.committed_is ∙ ready.committed ∙ sym same.now_is;
      };
  stands = λ fine clean.
      let early : HasCleanDisk (state g.S.Store c.self.inside.conn) = omega (arith, c.read_all.ensures.survives.clean) in
      let ready = c.self.invariant.ready c.if-self.false early in
      let same = (c.in-Ok.ensures.same clean ready.now).0 in
      subst (λ (d : Database). IsKnown c.self.inside.last_put (tables_of d.trees)) (sym same.now_is) (c.self.invariant.stands c.if-self.false early);
  named = λ fine clean knows.
      let early : HasCleanDisk (state g.S.Store c.self.inside.conn) = omega (arith, c.read_all.ensures.survives.clean) in
      let ready = c.self.invariant.ready c.if-self.false early in
      let same = (c.in-Ok.ensures.same clean ready.now).0 in
      subst (λ (d : Database). AreParts c.self.inside.parts (tables_of d.trees).part) (sym same.now_is) (c.self.invariant.named c.if-self.false early knows);
}

pub invariant_of-self-in-Err : goal.invariant_of-self-in-Err
invariant_of-self-in-Err g c = record {
  autocommit = c.read_all.ensures.mode c.self.invariant.autocommit;
  ready = λ fine. absurd (true≢false fine);
  stands =
      λ fine. absurd (true≢false fine);
  named = λ fine. absurd (true≢false fine);
}
