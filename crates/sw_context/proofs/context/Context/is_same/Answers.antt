use Rattle.std.proofs.Common.{◌≡◌, ◌<◌, ℕ, length, slice_get, refl, arith}
use Rattle.std.proofs.lemmas.Bool.Decides.{nat_tests}
use Rattle.sw_context.proofs.Places.{same_by_places}
use Rattle.sw_context.proofs.context.Context.is_same.Goals as goal

pub returns : goal.returns
returns c = (
  λ t. same_by_places c.args.self.now c.args.other.now c.loop-index.invariant.0
      (λ i k. c.loop-index.invariant.1 i (grind (arith, nat_tests, k, c.loop-index-test.false, c.len-index-end.ensures.len, c.loop-index.auto))),
  λ e. refl,
)
