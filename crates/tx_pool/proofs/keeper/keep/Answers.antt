use Rattle.std.proofs.Common.{◌∙◌}
use Rattle.journal_store.specs.Kept.{kept}
use Rattle.tx_pool.proofs.Sinking.{kept_batch, some_of, some_part}
use Rattle.tx_pool.proofs.keeper.keep.Goals as goal

pub returns-in_default-clause-some : goal.returns-in_default-clause-some
returns-in_default-clause-some g c = some_of g.Z.Sink.takes g.K.Run.start (kept g.S.Store c.args.journal) (kept g.S.Store c.loop.kept.journal) c.loop.kept.written.items
    c.args.sink c.loop.kept.sink c.loop.kept.taken.items c.loop.invariant.0

pub returns-in-Err-clause-some : goal.returns-in-Err-clause-some
returns-in-Err-clause-some g c = some_part g.Z.Sink.takes g.K.Run.start (kept g.S.Store c.args.journal) (kept g.S.Store c.loop.kept.journal)
    (kept g.S.Store c.keep_batch.new.self.journal) c.loop.kept.written.items c.in-Some-next_batch.late.items c.args.sink c.loop.kept.sink
    c.keep_batch.new.self.sink c.loop.kept.taken.items c.loop.invariant.0 c.in-Err.ensures.some

pub loop-preserved : goal.loop-preserved
loop-preserved g c = (
  kept_batch g.Z.Sink.takes g.K.Run.start (kept g.S.Store c.args.journal) (kept g.S.Store c.loop.kept.journal) (kept g.S.Store c.keep_batch.new.self.journal)
      c.loop.kept.written.items c.keep_batch.new.self.written.items c.in-Some-next_batch.late.items c.args.sink c.loop.kept.sink
      c.keep_batch.new.self.sink c.loop.kept.taken.items c.keep_batch.new.self.taken.items c.loop.invariant.0 c.in-Ok.ensures.all,
  c.keep_batch.ensures.flag ∙ c.loop.invariant.1,
)
