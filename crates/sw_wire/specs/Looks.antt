-- What a look for an answer shows.
use Rattle.std.specs.Prelude.{ℕ, ◌==◌, ◌||◌, Bool, true, false, not, Option, Some, None, if◌then◌else◌}
use Rattle.std.specs.Global.{Vec}
use Rattle.sw_wire.specs.declared.direction.DirectionState.{DirectionState}
use Rattle.sw_wire.specs.declared.direction.DirectionState.TheVariants as direction
use Rattle.sw_wire.specs.declared.sent.Sent.{Sent}
use Rattle.sw_wire.specs.declared.look.Look.{Look}
use Rattle.sw_wire.specs.declared.look.Look.TheVariants.{Answer, Closed, Late, Open}

-- a direction was closed since then, also if it was opened again
abbrev pub has_closed : Sent → Sent → Bool
has_closed sent now = not (sent.closed_to == now.closed_to) || not (sent.closed_from == now.closed_from)

-- one of the directions is closed
abbrev pub is_closed : DirectionState → DirectionState → Bool
is_closed direction.Closed from = true
is_closed to direction.Closed = true
is_closed to from = false

-- an answer counts, also where a direction is closed
abbrev pub look_of : Bool → Option (Vec ℕ) → Look
look_of closed (Some answer) = Answer answer
look_of closed None = if closed then Closed else Open

abbrev pub is_open : Look → Bool
is_open Open = true
is_open look = false

-- no answer came, and none is waited for any more
abbrev pub is_over : Look → Bool
is_over Late = true
is_over Closed = true
is_over look = false

abbrev pub answer_in : Look → Option (Vec ℕ)
answer_in (Answer answer) = Some answer
answer_in look = None
