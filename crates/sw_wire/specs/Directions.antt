-- The states of a direction as a word, and when it may be ordered to be opened.
use Rattle.std.specs.Prelude.{ℕ, ◌+◌, ◌-◌, Bool, true, false, max, min, nat_le, not, Option, Some, None}
use Rattle.sw_wire.specs.declared.direction.DirectionState.{DirectionState}
use Rattle.sw_wire.specs.declared.direction.DirectionState.TheVariants.{Closed, Opening, Open}
use Rattle.sw_wire.specs.declared.moment.Moment.{Moment}
use Rattle.sw_wire.specs.Moments.{end_of_time}

abbrev pub word_of : DirectionState → ℕ
word_of Closed = 0
word_of Opening = 1
word_of Open = 2

-- whether there was no order, or this many microseconds have passed since the last one
abbrev pub is_due : ℕ → Option Moment → ℕ → Bool
is_due micros None now = true
is_due micros (Some last) now = nat_le micros (now - last.micros)

-- only a closed one is ordered to be opened, a second after the last order
abbrev pub is_ordered : DirectionState → Option Moment → ℕ → Bool
is_ordered Closed last now = is_due 1000000 last now
is_ordered Opening last now = false
is_ordered Open last now = false

-- a message waits for one that is being opened, for 100 milliseconds from the order on
abbrev pub is_awaited : DirectionState → Option Moment → ℕ → Bool
is_awaited Opening last now = not (is_due 100000 last now)
is_awaited Closed last now = false
is_awaited Open last now = false

-- a second later, at most the last moment of all; in microseconds
abbrev pub second_after : ℕ → ℕ
second_after micros = min (micros + 1000000) end_of_time

-- While a host is tested, a direction that is closed is ordered without a message: a second after the last order, and at once where there
-- was none.
abbrev pub opened_from : Option Moment → Option Moment → Option Moment
opened_from None last = None
opened_from (Some from) None = Some from
opened_from (Some from) (Some last) = Some (record { micros = max from.micros (second_after last.micros) })
