use Rattle.std.proofs.Common.{◌≡◌, ◌++◌, ℕ, drop, string_bytes}
use Rattle.std.specs.List.{flat_map}
use Rattle.cli_step.specs.Places.{entry_text, rest_text}
use Rattle.cli_step.proofs.shown.rest_line.Given as goal

-- the text so far and those of the entries left are the line
abbrev pub invariant-loop-group : goal.invariant-loop-group
invariant-loop-group l =
    string_bytes l.text ++ flat_map (λ (p : ℕ × ℕ). entry_text l.engine.flow p.0 p.1) (drop l.group-index l.group-items)
    ≡ rest_text l.engine.flow l.group-items
