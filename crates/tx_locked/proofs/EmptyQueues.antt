-- A queue of no contexts.
-- for: comparing::is_settled
use Rattle.std.proofs.Common.{◌≡◌, List, [], ◌∷◌, length, refl}
use Rattle.std.proofs.Common.{arith}
use Rattle.tx_engine.specs.World.{World}
use Rattle.tx_engine.specs.Calls.{waits}

pub none_waits : (w : World) → length (waits w) ≡ 0 → waits w ≡ []
none_waits w h = none (waits w) h where
  none : {A : Type 0} (xs : List A) → length xs ≡ 0 → xs ≡ []
  none [] h = refl
  none (x ∷ xs) h = absurd (omega (arith, h))
