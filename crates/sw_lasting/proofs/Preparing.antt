-- What a preparation of the request does is what `prepare` does.
-- for: limits::LastingLimitsParticipant::prepare
use Rattle.std.proofs.Common.{◌≡◌, ℕ, Option, None, Result, Ok, Err, IfOk, refl, subst}
use Rattle.iso_msg.specs.Messages.{PlainMessage}
use Rattle.sw_context.specs.Pairs.{Pairs}
use Rattle.sw_messages.specs.Requests.{request_in}
use Rattle.sw_parts.specs.Quiet.{passes}
use Rattle.sw_lasting.specs.Holding.{Holds, HoldsBy}
use Rattle.sw_lasting.specs.Keeping.{Keeping, shown_keeping}

pub prepared : {E : Type 0} (r : Result ℕ E) (id : ℕ) (m : Option PlainMessage) (k : Keeping) (after : Keeping) (x : Pairs) (y : Pairs) → m ≡ request_in x
    → IfOk r (λ byte. HoldsBy m id k x byte after y)
    → IfOk r (λ byte. (z : Keeping) × (w : Keeping) × (shown_keeping k ≡ shown_keeping z) × (shown_keeping after ≡ shown_keeping w) × Holds id z x byte w y)
prepared (Ok byte) id m k after x y is held = (k, after, refl, refl, subst (λ o. HoldsBy o id k x byte after y) is held)
prepared (Err e) id m k after x y is held = tt

-- a context without a request that can be read is passed over
pub passed : (id : ℕ) (k : Keeping) (x : Pairs) → None ≡ request_in x
    → (z : Keeping) × (w : Keeping) × (shown_keeping k ≡ shown_keeping z) × (shown_keeping k ≡ shown_keeping w) × Holds id z x passes w x
passed id k x is = (k, k, refl, refl, subst (λ o. HoldsBy o id k x passes k x) is (refl, refl, refl))
