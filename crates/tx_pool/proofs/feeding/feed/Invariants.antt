use Rattle.std.proofs.Common.{◌≡◌, List}
use Rattle.sw_context.specs.Pairs.{Pairs}
use Rattle.tx_pool.specs.Feeding.{Feeds}
use Rattle.tx_pool.proofs.feeding.feed.Given as goal

abbrev pub invariant-loop : goal.invariant-loop
invariant-loop g l = (l.putter.intake ≡ g.K.Run.intake) × Feeds g.K.Run.given (g.O.Source.given l.source) l.putter.passed × ((all : List Pairs) →
    g.O.Source.ends_with l.source all → g.K.Run.ends_with all)
