use Rattle.std.proofs.Common.{◌≡◌, ℕ, [], Some, refl}
use Rattle.sw_context.specs.Pairs.{Pairs}
use Rattle.tx_plant.specs.Core.{find}
use Rattle.tx_plant.proofs.laws.ended_may_be_taken.Goals as goal

none_found : (A : Type 0) (id : ℕ) (x : Pairs) → find id [] ≡ Some x → A
none_found A id x e = absurd (cc)

pub returns : goal.returns
returns g c = λ types os p start keeps. (
  start,
  (refl, λ id. refl),
  record {
    where_is = keeps.where_is;
    seated = keeps.seated;
    waits = keeps.waits;
    ended = λ id x e. none_found _ id x e;
    fresh = keeps.fresh;
  },
)
