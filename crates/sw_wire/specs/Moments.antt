-- Moments, in microseconds.
use Rattle.std.specs.Prelude.{ℕ, ◌+◌, ◌/◌, min}
use Rattle.std.specs.Duration.{as_nanos}
use Rattle.std.specs.declared.time.Duration.{Duration}

-- the last moment of all
abbrev pub end_of_time : ℕ
end_of_time = 18446744073709551615

-- that much later; the last moment of all, where it would be later still
abbrev pub later : ℕ → Duration → ℕ
later micros time = min (micros + as_nanos time / 1000) end_of_time
