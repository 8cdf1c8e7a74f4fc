-- Where neither of two tests refuses anything.
-- for: the crates that give the first of several faults
use Rattle.std.proofs.Common.{◌≡◌, Option, Some, None, refl}
use Rattle.sw_base.specs.Refusals.{or_else}

pub left_none : {A : Type 0} (a b : Option A) → or_else a b ≡ None → a ≡ None
left_none None b h = refl
left_none (Some x) b h = absurd (cc)

pub right_none : {A : Type 0} (a b : Option A) → or_else a b ≡ None → b ≡ None
right_none None b h = h
right_none (Some x) b h = absurd (cc)
