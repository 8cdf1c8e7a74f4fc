-- The lines of what came of a turn.
use Rattle.std.specs.Prelude.{ℕ, [], ◌∷◌, ◌++◌, codes, Option, Some, None, option_map}
use Rattle.std.specs.Option.{option_map_or}
use Rattle.std.specs.Fmt.{decimal}
use Rattle.tx_engine.specs.declared.error.EngineError.{EngineError}
use Rattle.tx_engine.specs.declared.error.EngineError.TheVariants as error
use Rattle.tx_engine.specs.Calls.{at_of}
use Rattle.tx_engine.specs.World.{World}
use Rattle.tx_plant.specs.declared.turn.Outcome.{Outcome}
use Rattle.tx_plant.specs.declared.turn.Outcome.TheVariants as outcome
use Rattle.tx_trace.specs.Lines.{line_in}
use Rattle.tx_trace.specs.Trace.{Text}
use Rattle.tx_trace.specs.Where.{place_at}
use Rattle.tx_trace.specs.declared.places.Place.{Place}
use Rattle.cli_step.specs.Places.{held_text, where_text}

abbrev pub refusal_name : EngineError → Text
refusal_name (error.UnknownParticipant id name) = codes "UnknownParticipant"
refusal_name error.BadSessions = codes "BadSessions"
refusal_name error.Busy = codes "Busy"
refusal_name error.Empty = codes "Empty"
refusal_name error.Recovering = codes "Recovering"
refusal_name error.IdsSpent = codes "IdsSpent"
refusal_name error.NotDue = codes "NotDue"
refusal_name error.NoAdvice = codes "NoAdvice"
refusal_name error.NoParticipant = codes "NoParticipant"
refusal_name error.NotHeld = codes "NotHeld"
refusal_name error.BadMark = codes "BadMark"
refusal_name error.NoSession = codes "NoSession"
refusal_name error.HistoryFull = codes "HistoryFull"
refusal_name error.OutOfMemory = codes "OutOfMemory"
refusal_name error.InUse = codes "InUse"
refusal_name error.NotWritten = codes "NotWritten"

-- where the session's transaction stands
abbrev pub place_now : World → ℕ → Option Place
place_now w s = option_map place_at (at_of w s)

-- the line of a held call
abbrev pub held_line : World → ℕ → Text
held_line w s = option_map_or (held_text w.flow s) (place_now w s) (codes "idle " ++ decimal s)

-- the line of what came of a turn of this session, where that is not an entry
abbrev pub outcome_line : World → ℕ → Outcome → Text
outcome_line w s (outcome.Accepted n) = []
outcome_line w s (outcome.Refused e) = codes "refused " ++ refusal_name e
outcome_line w s outcome.Idle = codes "idle " ++ decimal s
outcome_line w s outcome.Unwritten = codes "unwritten " ++ decimal s
outcome_line w s (outcome.Held call) = held_line w s
outcome_line w s (outcome.Written n) = codes "written " ++ decimal n
outcome_line w s (outcome.Restarted n) = codes "restart " ++ decimal n
outcome_line w s (outcome.Cut n) = codes "cut " ++ decimal n

-- the line of what came of it: for an entry, its line in the trace
abbrev pub turn_line : World → ℕ → Outcome → Option Text
turn_line w s (outcome.Accepted n) = line_in w n
turn_line w s o = Some (outcome_line w s o)

-- the line of `where S`
abbrev pub where_line : World → ℕ → Text
where_line w s = option_map_or (where_text w.flow) (place_now w s) (codes "idle " ++ decimal s)

-- a line with its line feed, where there is one
abbrev pub whole_line : Option Text → Text
whole_line None = []
whole_line (Some line) = line ++ 10 ∷ []
