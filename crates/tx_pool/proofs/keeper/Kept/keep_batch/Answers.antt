use Rattle.std.proofs.Common.{rules, ◌≡◌, inl, inr, map, refl}
use Rattle.tx_locked.specs.declared.finished.Finished.{Finished}
use Rattle.tx_locked.specs.Finished.{WereKept, finished_in}
use Rattle.tx_pool.proofs.Sinking.{part_none, part_taken}
use Rattle.tx_pool.proofs.keeper.Kept.keep_batch.Goals as goal

pub returns-in-Err-clause-some : goal.returns-in-Err-clause-some
returns-in-Err-clause-some g c = inl (rw c.as_slice.ensures.value at c.in-Err.ensures.refused, refl)

pub returns-then-is_err-clause-some : goal.returns-then-is_err-clause-some
returns-then-is_err-clause-some g c = inr (search rules, search rules, part_none g.Z.Sink.takes g.K.Run.start c.args.late.items c.args.self.now.sink)

pub returns-then-not-hand_over-clause-some : goal.returns-then-not-hand_over-clause-some
returns-then-not-hand_over-clause-some g c =
    let is : map (λ (f : Finished). f.id) c.as_slice-5.result.now ≡ finished_in c.args.late.items = search rules in
    let took = c.hand_over.ensures.some in
    let were : WereKept g.K.Run.start c.as_slice-5.result.now = search rules in
    inr (
      search rules,
      search rules,
      part_taken g.Z.Sink.takes g.K.Run.start c.args.late.items c.args.self.now.sink c.hand_over.new.sink c.as_slice-5.result.now
          took.0 took.1 is were,
    )

pub returns-then-is_err-2-clause-some : goal.returns-then-is_err-2-clause-some
returns-then-is_err-2-clause-some g c =
    let is : map (λ (f : Finished). f.id) c.as_slice-5.result.now ≡ finished_in c.args.late.items = search rules in
    let took = c.hand_over.ensures.some in
    let were : WereKept g.K.Run.start c.as_slice-5.result.now = search rules in
    inr (
      search rules,
      search rules,
      part_taken g.Z.Sink.takes g.K.Run.start c.args.late.items c.args.self.now.sink c.hand_over.new.sink c.as_slice-5.result.now
          took.0 took.1 is were,
    )
