use Rattle.std.proofs.Common.{rules, arith, subst, sym}
use Rattle.sqlite.specs.State.{HasCleanDisk}
use Rattle.sqlite.specs.Held.{state}
use Rattle.journal_tables.specs.Steps.{Steps}
use Rattle.journal_tables.proofs.ChainLemmas.{steps_then, all_made_more}
use Rattle.journal_tables.proofs.changes.make_all.Goals as goal

pub loop-entry-preserved : goal.loop-entry-preserved
loop-entry-preserved g c =
    let old = state g.S.Store c.args.tx.now.conn.now in
    let mid = state g.S.Store c.loop-entry.tx.conn.now in
    let new = state g.S.Store c.make.new.tx.conn.now in
    let before = c.loop-entry.invariant in (
      search rules,
      λ clean ready live known are.
          let early : HasCleanDisk mid = omega (arith, c.make.ensures.keeps.survives.clean) in
          let one = before.1 early ready live known are in
          let two = c.in_ok-last_put.ensures.steps clean one.steps.ready one.steps.is_open one.known one.parts_are in
          record {
            steps = subst (λ f. Steps f old new) (sym (all_made_more c.args.entries.now c.loop-entry.entry-index c.entry-item.result c.loop-entry-test.true
                c.entry-item.is)) (steps_then _ _ old mid new one.steps two.steps);
            known = two.known;
            parts_are = two.parts_are;
          },
    )
