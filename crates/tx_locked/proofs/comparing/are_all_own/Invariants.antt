use Rattle.std.proofs.Common.{◌≡◌, ◌<◌, ℕ, Vec, Global, Some}
use Rattle.std.specs.Prelude.{slice_get}
use Rattle.tx_locked.specs.Receipts.{own_numbers}
use Rattle.tx_locked.proofs.comparing.are_all_own.Given as goal

abbrev pub invariant-loop-session : goal.invariant-loop-session
invariant-loop-session l = (s : ℕ) (v : Vec ℕ Global) → s < l.session → slice_get l.receipts s ≡ Some v → v.items ≡ own_numbers s l.entries
