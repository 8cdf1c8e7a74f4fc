-- The walk along a group's steps by which the code finds a call.
use Rattle.std.specs.Prelude.{ℕ, ◌+◌, ◌-◌, ◌==◌, List, [], ◌∷◌, if◌then◌else◌, Option, Some, None}
use Rattle.flow_asm.specs.declared.code.Step.{Step}
use Rattle.flow_asm.specs.declared.code.Step.TheVariants.{Call, Pick, Return}

-- the number of the call of this index before the next return, when the first step has number n
abbrev pub call_from : ℕ → ℕ → List Step → Option ℕ
call_from n i [] = None
call_from n i (Call p ∷ xs) = if i == 0 then Some n else call_from (n + 1) (i - 1) xs
call_from n i (Pick p ∷ xs) = call_from (n + 1) i xs
call_from n i (Return ∷ xs) = None
