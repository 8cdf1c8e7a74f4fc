-- Why a run does not begin.
use Rattle.std.specs.Prelude.{◌≡◌, ℕ, [], ◌∷◌, Option, Some, None}
use Rattle.sw_base.specs.Refusals.{first_of, refused_if}
use Rattle.std.specs.Prelude.{not, nat_le, ◌&&◌}
use Rattle.tx_engine.specs.World.{World}
use Rattle.tx_engine.specs.Cuts.{is_broken, is_in_use}
use Rattle.tx_plant.specs.declared.plant.Plant.{Plant}
use Rattle.tx_pool.specs.declared.refusal.PoolError.{PoolError}
use Rattle.tx_pool.specs.declared.refusal.PoolError.TheVariants as refused
use Rattle.tx_pool.specs.declared.refusal.Early.{Early}
use Rattle.tx_pool.specs.declared.refusal.Early.TheVariants.{BadCapacity, BreakSet, InUse, OutOfMemory}

-- a participant has a breakpoint, a session holds a transaction, no intake has this capacity; out of memory aside
abbrev pub early_refusal : World → ℕ → Option Early
early_refusal w capacity =
    first_of (refused_if (is_broken w) BreakSet
    ∷ refused_if (is_in_use w) InUse
    ∷ refused_if (not (nat_le 1 capacity && nat_le capacity 4096)) BadCapacity ∷ [])

-- the cause is that refusal; out of memory comes only where there is none
abbrev pub IsEarly : Early → Option Early → Type 0
IsEarly OutOfMemory r = r ≡ None
IsEarly e r = r ≡ Some e

-- a run that did not begin hands its plant back as it was; one that was given up had begun
abbrev pub IsRefused : {S : Type 0} {I : Type 0} {D : I → Type 0} → Plant S I D → Option Early → PoolError S I D → Type 0
IsRefused plant r (refused.Early p e) = (p ≡ plant) × IsEarly e r
IsRefused plant r (refused.Late l) = r ≡ None
