use Rattle.std.proofs.Common.{◌≡◌, false}
use Rattle.journal_store.specs.Kept.{kept}
use Rattle.tx_pool.specs.Sinks.{KeptAll}
use Rattle.tx_pool.proofs.keeper.keep.Given as goal

abbrev pub invariant-loop : goal.invariant-loop
invariant-loop g l = KeptAll g.Z.Sink.takes g.K.Run.start (kept g.S.Store l.fn.journal) (kept g.S.Store l.kept.journal) l.kept.written.items l.fn.sink l.kept.sink
    l.kept.taken.items × (l.kept.all_done ≡ false)
