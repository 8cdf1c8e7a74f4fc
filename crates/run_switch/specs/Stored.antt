-- A stored advice under its transaction's id and its place.
use Rattle.std.specs.Prelude.{ℕ, List}
use Rattle.run_switch.specs.declared.advices.Stored.{Stored}

abbrev pub stored_id : Stored → ℕ × ℕ
stored_id s = (s.id, s.place)

abbrev pub plain : Stored → (ℕ × ℕ) × List ℕ
plain s = (stored_id s, s.advice)
