-- What the thread that writes to a host does when no frame waits.
use Rattle.std.specs.Prelude.{ℕ, ◌+◌, ◌==◌, max, min, nat_le, Option, Some, None, if◌then◌else◌}
use Rattle.std.specs.Duration.{as_nanos}
use Rattle.std.specs.declared.time.Duration.{Duration}
use Rattle.sw_wire.specs.declared.moment.Moment.{Moment}
use Rattle.sw_wire.specs.declared.times.HostTimes.{HostTimes}
use Rattle.sw_wire.specs.declared.watch.Duty.{Duty}
use Rattle.sw_wire.specs.declared.watch.Duty.TheVariants.{Rests, Tests, GivesUp}
use Rattle.sw_wire.specs.declared.watch.EchoTests.{EchoTests}
use Rattle.sw_wire.specs.declared.watch.Watch.{Watch}
use Rattle.sw_wire.specs.Moments.{end_of_time, later}

-- nothing was read since these echo tests
abbrev pub since : Option EchoTests → ℕ → Option EchoTests
since None heard = None
since (Some tests) heard = if tests.heard == heard then Some tests else None

-- the last echo tests, if nothing was read since; `heard` is how often something was read
abbrev pub unanswered : Watch → ℕ → Option EchoTests
unanswered w heard = since w.tests heard

-- With one more of them. The answer to the first is waited for.
abbrev pub tests_with : Option EchoTests → ℕ → ℕ → Duration → EchoTests
tests_with None now heard timeout = record { deadline = record { micros = later now timeout }; heard = heard; count = 1 }
tests_with (Some tests) now heard timeout = record tests { count = min (tests.count + 1) 18446744073709551615 }

-- that long after the last frame; never, if it is 0
abbrev pub due : Watch → Duration → Option Moment
due w echo = if as_nanos echo == 0 then None else Some (record { micros = later w.written.micros echo })

-- from a moment on, and that long after the last echo test
abbrev pub again : Option Moment → Moment → Duration → Moment
again None from retry = from
again (Some tested) from retry = record { micros = max from.micros (later tested.micros retry) }

-- the next echo test of a host that is tested from this moment on
abbrev pub due_in_silence : Watch → Moment → Duration → Moment
due_in_silence w from retry = again w.tested from retry

-- by the moment from which it is tested, if it is, and the echo tests that are unanswered
abbrev pub next_by : Option Moment → Option EchoTests → Watch → HostTimes → Option Moment
next_by (Some from) tests w times = Some (due_in_silence w from times.retry)
next_by None (Some tests) w times = None
next_by None None w times = due w times.echo

-- A host that is tested from a moment on gets one echo test after another. Any other gets one when it gets nothing else, and none
-- while an earlier one is unanswered.
abbrev pub next_test : Watch → ℕ → Option Moment → HostTimes → Option Moment
next_test w heard tested_from times = next_by tested_from (unanswered w heard) w times

-- it sleeps up to the deadline, or up to an earlier echo test
abbrev pub rest_or_test : Option Moment → Moment → ℕ → Duty
rest_or_test None deadline now = Rests deadline
rest_or_test (Some due) deadline now =
    if nat_le due.micros now then Tests else Rests (record { micros = min due.micros deadline.micros })

-- by the echo tests that are unanswered, and the moment of the next one
abbrev pub duty_by : Option EchoTests → Option Moment → ℕ → Duty
duty_by None next now = rest_or_test next (record { micros = end_of_time }) now
duty_by (Some tests) next now = if nat_le tests.deadline.micros now then GivesUp tests.count else rest_or_test next tests.deadline now

-- Echo tests without an answer are waited for up to their deadline, and the next one is written when it is due.
abbrev pub duty : Watch → ℕ → ℕ → Option Moment → HostTimes → Duty
duty w now heard tested_from times = duty_by (unanswered w heard) (next_test w heard tested_from times) now
