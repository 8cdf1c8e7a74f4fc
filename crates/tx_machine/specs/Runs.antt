-- The run of bytes before a text's first gap, by which the code finds names.
use Rattle.std.specs.Prelude.{ℕ, ◌+◌, List, [], ◌∷◌, if◌then◌else◌}
use Rattle.tx_machine.specs.Names.{is_gap}

-- how many bytes that run has
abbrev pub run_of : List ℕ → ℕ
run_of [] = 0
run_of (c ∷ cs) = if is_gap c then 0 else run_of cs + 1
