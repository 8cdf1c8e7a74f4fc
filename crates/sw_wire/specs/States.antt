-- What is reported of a host.
use Rattle.std.specs.Prelude.{◌≡◌, ◌==◌, ℕ, ◌+◌, ◌/◌, zero, suc, List, [], ◌∷◌, ◌++◌, Option, Some, None, codes, if◌then◌else◌}
use Rattle.std.specs.Duration.{as_nanos}
use Rattle.std.specs.Fmt.{decimal}
use Rattle.sw_wire.specs.declared.look.Look.{Look}
use Rattle.sw_wire.specs.declared.look.Look.TheVariants as look
use Rattle.sw_wire.specs.declared.state.HostSign.{HostSign}
use Rattle.sw_wire.specs.declared.state.HostSign.TheVariants.{Closed, Late, NotOpened, Read, Unsent}
use Rattle.sw_wire.specs.declared.state.HostState.{HostState}
use Rattle.sw_wire.specs.declared.state.HostState.TheVariants.{CannotOpen, Lost, NotOpen, Reached, Silent}
use Rattle.sw_wire.specs.declared.times.HostTimes.{HostTimes}
use Rattle.sw_wire.specs.Times.{tests_silence}

-- a deadline that has come is a sign; an answer was read already
abbrev pub sign_of : Look → Option HostSign
sign_of (look.Answer answer) = None
sign_of look.Late = Some Late
sign_of look.Closed = None
sign_of look.Open = None

-- a message that was not sent says something new only of a host that was reached
abbrev pub if_reached : HostState → HostState
if_reached Reached = NotOpen
if_reached state = state

-- the last sign decides
abbrev pub after : HostState → HostSign → HostState
after state Read = Reached
after state Unsent = if_reached state
after state (NotOpened number) = CannotOpen number
after state Closed = Lost
after state Late = Silent

-- a state as a word; from 4 on a failed opening, with the number that the system gave the error
abbrev pub state_word : HostState → ℕ
state_word Reached = 0
state_word NotOpen = 1
state_word Lost = 2
state_word Silent = 3
state_word (CannotOpen number) = 4 + number

-- With `retry` the host is not asked for that long; with `echo` too, until something is read from it.
abbrev pub pause_text : HostTimes → List ℕ
pause_text times =
    if as_nanos times.retry == 0 then []
    else if tests_silence times then codes "; not asked until it sends something"
    else (codes "; not asked for " ++ decimal (as_nanos times.retry / 1000000) ++ codes " ms")

-- with the cause, if the system gave the error a number; of its words no contract says anything
abbrev pub IsOpeningText : ℕ → List ℕ → Type 0
IsOpeningText zero text = text ≡ codes "cannot be opened"
IsOpeningText (suc number) text = (cause : List ℕ) × (text ≡ codes "cannot be opened: " ++ cause)

-- what the line says after the host's name
abbrev pub IsStateText : HostTimes → HostState → List ℕ → Type 0
IsStateText times Reached text = text ≡ codes "is back"
IsStateText times NotOpen text = text ≡ codes "is not open yet"
IsStateText times (CannotOpen number) text = IsOpeningText number text
IsStateText times Lost text = text ≡ codes "connection lost"
IsStateText times Silent text = text ≡ codes "no answer in time" ++ pause_text times

-- the line of a host with this name
abbrev pub IsStateLine : List ℕ → HostTimes → HostState → List ℕ → Type 0
IsStateLine name times state line =
    (text : List ℕ) × IsStateText times state text × (line ≡ codes "cardswitch: host " ++ name ++ codes ": " ++ text ++ 10 ∷ [])
