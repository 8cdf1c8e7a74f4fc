use Rattle.std.proofs.Common.{◌≡◌, List, ℕ, map, take}
use Rattle.std.specs.Borrow.{Bor}
use Rattle.cli_step.specs.Typed.{spaced}
use Rattle.cli_step.proofs.typed.spaced.Given as goal

abbrev pub invariant-loop-part : goal.invariant-loop-part
invariant-loop-part l = l.text.items ≡ spaced (map (λ (p : Bor (List ℕ)). p.now) (take l.part-index l.parts))
