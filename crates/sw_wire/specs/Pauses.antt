-- How long a host that did not answer in time is not asked.
use Rattle.std.specs.Prelude.{ℕ, ◌==◌, ◌&&◌, ◌||◌, Bool, false, not, nat_le, Option, Some, None, is_some, if◌then◌else◌}
use Rattle.sw_wire.specs.declared.look.Look.{Look}
use Rattle.sw_wire.specs.declared.look.Look.TheVariants.{Answer, Closed, Late, Open}
use Rattle.sw_wire.specs.declared.moment.Moment.{Moment}
use Rattle.sw_wire.specs.declared.pause.Pause.{Pause}
use Rattle.sw_wire.specs.declared.pause.PauseChange.{PauseChange}
use Rattle.sw_wire.specs.declared.pause.PauseChange.TheVariants.{Stays, Ends, Begins}
use Rattle.sw_wire.specs.declared.times.HostTimes.{HostTimes}
use Rattle.sw_wire.specs.Moments.{later}
use Rattle.sw_wire.specs.Times.{tests_silence}

-- An answer ends it. It begins where none came in time, unless the host has answered another request since that one was sent.
abbrev pub pause_by : Look → Bool → ℕ → ℕ → HostTimes → PauseChange
pause_by (Answer answer) answers now heard times = Ends
pause_by Late answers now heard times =
    if answers then Stays else Begins (record { until = record { micros = later now times.retry }; heard = heard })
pause_by Closed answers now heard times = Stays
pause_by Open answers now heard times = Stays

-- it begins too where echo tests were not answered in time
abbrev pub pause_by_tests : Moment → ℕ → HostTimes → PauseChange
pause_by_tests now heard times = if tests_silence times then Begins (record { until = now; heard = heard }) else Stays

-- A host is silent while nothing was read from it since its pause began. It is tested from the moment up to which the pause lasts at
-- least.
abbrev pub tested_from : Option Pause → ℕ → HostTimes → Option Moment
tested_from None heard times = None
tested_from (Some p) heard times = if p.heard == heard && tests_silence times then Some p.until else None

-- before that moment, and while it is silent
abbrev pub is_paused : Option Pause → ℕ → ℕ → HostTimes → Bool
is_paused None now heard times = false
is_paused (Some p) now heard times = not (nat_le p.until.micros now) || is_some (tested_from (Some p) heard times)
