-- The day of a reservation, noted in the context, so that recovery knows it.
use Rattle.std.specs.Prelude.{ℕ, List, length, ◌==◌, if◌then◌else◌, codes, Option, Some, None, option_and_then}
use Rattle.std.specs.Int.{to_be_bytes, from_be_bytes, w32}
use Rattle.sw_context.specs.Pairs.{Pairs, find, with_value}

-- the name of the note
abbrev pub limits_name : List ℕ
limits_name = codes "limits"

abbrev pub day_bytes : ℕ → List ℕ
day_bytes day = to_be_bytes w32 day

abbrev pub with_day : ℕ → Pairs → Pairs
with_day day x = with_value x limits_name (day_bytes day)

abbrev pub day_of : List ℕ → Option ℕ
day_of bytes = if length bytes == 4 then Some (from_be_bytes w32 bytes) else None

-- the day that is noted, if there is one
abbrev pub day_in : Pairs → Option ℕ
day_in x = option_and_then day_of (find limits_name x)
