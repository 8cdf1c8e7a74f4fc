-- What the lines of a script do to a plant.
use Rattle.std.specs.Prelude.{◌≡◌, ℕ, ◌<◌, ⊤, Bool, true, false, List, [], ◌++◌, map, Option, Some, None, Ok}
use Rattle.sqlite_trees.specs.declared.store.Store.{Ghosts}
use Rattle.sw_participant.specs.Chains.{counts_after}
use Rattle.sw_participant.specs.Stations.{calls_of, name_of}
use Rattle.sw_scripted.specs.Puts.{put_all}
use Rattle.sw_scripted.specs.declared.puts.Put.{Put}
use Rattle.cli_script.specs.declared.line.Action.{Action}
use Rattle.cli_script.specs.declared.line.Action.TheVariants as action
use Rattle.tx_history.specs.declared.event.Event.{Event}
use Rattle.tx_engine.specs.World.{World, Recorded}
use Rattle.tx_plant.specs.declared.turn.Outcome.{Outcome}
use Rattle.tx_plant.specs.declared.turn.Outcome.TheVariants as outcome
use Rattle.tx_plant.specs.declared.turn.Turn.{Turn}
use Rattle.tx_plant.specs.declared.turn.Turn.TheVariants as turn
use Rattle.tx_plant.specs.declared.plant.Plant.{Plant}
use Rattle.tx_plant.specs.Plant.{Turned, Whole}
use Rattle.tx_plant.specs.Steps.{Moved}
use Rattle.tx_plant.specs.Wholes.{stations_of, whole_at}
use Rattle.tx_trace.specs.Follow.{count_of}
use Rattle.tx_trace.specs.declared.tracer.Tracer.{Tracer}
use Rattle.tx_trace.specs.Trace.{Text}
use Rattle.cli_step.specs.TurnLines.{turn_line, whole_line}

-- the offer of a context with these entries
abbrev pub offer_of : List Put → Turn
offer_of puts = turn.Offer (put_all [] puts)

-- the turn that a line is; the others only show something, or are `auto`
abbrev pub turn_of : Action → Option Turn
turn_of (action.Offer puts) = Some (offer_of puts)
turn_of (action.Take s) = Some (turn.Take s)
turn_of action.Release = Some turn.Release
turn_of (action.Ack id place) = Some (turn.Ack id place)
turn_of (action.Break name) = Some (turn.Break name)
turn_of (action.Clear name) = Some (turn.Clear name)
turn_of (action.Go s) = Some (turn.LetGo s)
turn_of (action.Call s) = Some (turn.Step s)
turn_of (action.Write most) = Some (turn.Write most)
turn_of action.Stop = Some turn.Stop
turn_of action.Cut = Some turn.Cut
turn_of _ = None

-- the session that a `call` line names, and 0 for any other line
abbrev pub session_of : Action → ℕ
session_of (action.Call s) = s
session_of _ = 0

-- a plant between two turns, with the names of its stations and how many calls were made of each
pub record Point : Type 0 where
  pub plant : Whole
  pub names : List Text
  pub calls : List ℕ

abbrev pub point_of : {S : Type 0} {I : Type 0} {D : I → Type 0} → Ghosts S → Plant S I D → Point
point_of g p = record {
  plant = whole_at g p;
  names = map name_of (stations_of p);
  calls = map calls_of (stations_of p);
}

abbrev pub world_of : Point → World
world_of p = p.plant.core.world

-- the turn was done, with this outcome
abbrev pub Does : Turn → Outcome → Point → Point → Type 0
Does t o p q = (m : List Moved) × Turned t (Ok o) m p.plant q.plant × (q.names ≡ p.names) × (q.calls ≡ counts_after p.calls m)

-- the turn was done, and this is the line of what came of it
abbrev pub Says : Turn → ℕ → Point → Text → Point → Type 0
Says t s p text q = (o : Outcome) × Does t o p q × (text ≡ whole_line (turn_line (world_of q) s o))

-- such a text was added
abbrev pub Adds : (Text → Type 0) → Text → Text → Type 0
Adds Is old new = (more : Text) × Is more × (new ≡ old ++ more)

-- the history began anew
abbrev pub is_fresh : Outcome → Bool
is_fresh (outcome.Restarted n) = true
is_fresh (outcome.Cut n) = true
is_fresh _ = false

-- what an outcome says of the history
abbrev pub IsWorldAfter : Outcome → World → World → Type 0
IsWorldAfter (outcome.Accepted n) w to = (e : Event) × Recorded w e n to
IsWorldAfter (outcome.Written n) w to = to ≡ record w { mark = n }
IsWorldAfter (outcome.Restarted n) w to = ⊤
IsWorldAfter (outcome.Cut n) w to = ⊤
IsWorldAfter _ w to = to ≡ w

-- the tracer has not gone through the entry of the outcome
abbrev pub IsAhead : Tracer → Outcome → Type 0
IsAhead t (outcome.Accepted n) = count_of t < n
IsAhead t _ = ⊤
