use Rattle.std.proofs.Common.{◌≡◌, ◌<◌, ℕ, length, slice_get}
use Rattle.sw_context.proofs.context.Context.is_same.Given as goal

abbrev pub invariant-loop-index : goal.invariant-loop-index
invariant-loop-index l = (length l.self ≡ length l.other) × ((i : ℕ) → i < l.index → slice_get l.self i ≡ slice_get l.other i)
