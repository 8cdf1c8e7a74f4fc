-- What happened in a plant, as the outcome law has it.
use Rattle.std.specs.Prelude.{ℕ, List, [], ◌∷◌, ◌++◌, Option, Some, None, unwrap_or}
use Rattle.sw_participant.specs.declared.call.Call.{Call}
use Rattle.sw_participant.specs.declared.call.Reply.{Reply}
use Rattle.sw_participant.specs.Chains.{Began, Called as CalledOne, Stopped}
use Rattle.sw_context.specs.Spelling.{bytes_of}
use Rattle.flow_model.specs.declared.flow.Flow.{Flow}
use Rattle.outcome_calls.specs.Trail.{Deed}
use Rattle.outcome_calls.specs.One.{FullReply}
use Rattle.outcome_calls.specs.Core.{PlantDeed, Called, Halted}
use Rattle.outcome_calls.specs.Stations.{deed_of, with_context}
use Rattle.outcome_history.specs.Looked.{id_view}
use Rattle.tx_plant.specs.declared.seat.Seat.{Seat}
use Rattle.tx_plant.specs.Steps.{Moved}

-- the deed of a call with its reply, at the place that its record has
abbrev pub deed_at : Call → Option ℕ → Reply → Option Deed
deed_at call place reply = deed_of call.act call.participant (unwrap_or place 0) reply

-- this deed of the transaction, if there is one
abbrev pub called : ℕ → Option Deed → List PlantDeed
called id None = []
called id (Some d) = Called id d ∷ []

-- calls with their replies, and stops with the journal's view: the newest first
abbrev pub deeds : Flow → List Moved → List PlantDeed
deeds f [] = []
deeds f (Began id x ∷ m) = deeds f m
deeds f (CalledOne call place reply ∷ m) = deeds f m ++ called call.id (deed_at call place reply)
deeds f (Stopped view ∷ m) = deeds f m ++ Halted (id_view f view) ∷ []

-- the reply that a seat keeps, with the context that its call left
abbrev pub kept_in : Seat → Option Reply → Option FullReply
kept_in l None = None
kept_in l (Some r) = Some (with_context r (bytes_of l.context))

-- the same of what a session holds
abbrev pub kept_reply : Option Seat → Option FullReply
kept_reply None = None
kept_reply (Some l) = kept_in l l.kept
