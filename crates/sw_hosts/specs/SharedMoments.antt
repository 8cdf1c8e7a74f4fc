-- A moment that threads share, as a word.
use Rattle.std.specs.Prelude.{ℕ, suc, zero, ◌+◌, min, Option, Some, None}
use Rattle.sw_wire.specs.declared.moment.Moment.{Moment}
use Rattle.sw_wire.specs.Moments.{end_of_time}

-- A moment, or none, as the word that threads share: one more than its microseconds, and 0 for none. The last moment is read
-- as the one before it.
abbrev pub word_for : Option Moment → ℕ
word_for None = 0
word_for (Some m) = min (m.micros + 1) end_of_time

abbrev pub moment_in : ℕ → Option Moment
moment_in zero = None
moment_in (suc micros) = Some (record { micros = micros })
