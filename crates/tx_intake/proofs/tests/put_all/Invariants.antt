use Rattle.std.proofs.Common.{◌≡◌}
use Rattle.tx_intake.proofs.tests.put_all.Given as goal

abbrev pub invariant-loop-offer : goal.invariant-loop-offer
invariant-loop-offer g l = (goal.iterator-loop-offer g).can_next l.offer-iterator × (goal.iterator-loop-offer g).is_finite l.offer-iterator
    × (l.putter.intake ≡ l.fn.intake.id) × (l.putter.intake ≡ l.fn.putter.intake)
