-- A switch between two calls of its plant, and the responses that it has to give.
--
-- - *Point*: a plant, and what was given: the id of the last
--   transaction whose response was, the tally of those that were answered, and how many advices
--   were found. *Unanswered*: the contexts of transactions that ended above that id. *At rest*: no
--   session holds a transaction, all is written, and no response is left to give. *Ready*: at rest,
--   the queue empty, nothing to recover, the history not long.
use Rattle.std.specs.Prelude.{◌≡◌, ◌<◌, ℕ, Bool, false, List, [], length, nat_le, Option, Some, None}
use Rattle.std.specs.Ordering.{nat_cmp}
use Rattle.std.specs.BTreeMap.{insert_entry}
use Rattle.sw_context.specs.Pairs.{Pairs}
use Rattle.tx_history.specs.History.{next_id, recovering}
use Rattle.tx_engine.specs.World.{World}
use Rattle.tx_engine.specs.Calls.{held_id, waits}
use Rattle.sqlite_trees.specs.declared.store.Store.{Ghosts}
use Rattle.journal_store.specs.Kept.{JournalState, kept}
use Rattle.tx_plant.specs.declared.seat.Seats.{Seats}
use Rattle.tx_plant.specs.Core.{without_ended}
use Rattle.tx_plant.specs.Plant.{Whole, seen, whole}
use Rattle.tx_seats.specs.Seated.{Seated}
use Rattle.sw_stats.specs.Tallies.{tallied}
use Rattle.run_responses.specs.Responses.{above, last_id, response, with_response}
use Rattle.run_switch.specs.declared.progress.Progress.{Progress}
use Rattle.run_switch.specs.declared.switch.Switch.{Switch}

-- the plant, and what was given: the id of the last transaction whose response was, and what was counted
pub record Point : Type 0 where
  pub plant : Whole
  pub answered : Progress

-- the same of its parts
abbrev pub point : World → Seats → JournalState → Progress → Point
point w seats j given = record { plant = whole w seats (seen j); answered = given }

-- the same of a switch
abbrev pub point_of : {S : Type 0} {I : Type 0} {D : I → Type 0} → Ghosts S → Switch S I D → Point
point_of g s = point s.plant.running.engine s.plant.running.seats (kept g s.plant.journal) s.answered

abbrev pub world_at : Point → World
world_at p = p.plant.core.world

-- the id of the next take
abbrev pub next_at : Point → ℕ
next_at p = next_id (world_at p).start (world_at p).past

-- the contexts of the transactions that ended, by their ids
abbrev pub ended_at : Point → List (ℕ × Pairs)
ended_at p = p.plant.core.ended

-- every entry is written
abbrev pub IsAllWritten : World → Type 0
IsAllWritten w = w.mark ≡ length w.past

-- no session holds a transaction
abbrev pub IsIdle : World → Type 0
IsIdle w = (s : ℕ) → held_id w s ≡ None

-- the contexts whose responses were not given
abbrev pub unanswered : Point → List (ℕ × Pairs)
unanswered p = above p.answered.last (ended_at p)

-- the responses of these contexts are given, and each context is counted
abbrev pub with_given : Progress → List (ℕ × Pairs) → Progress
with_given g es = record g { last = last_id g.last es; counts = tallied g.counts es }

-- their responses are given, and all contexts of transactions that ended are taken: the plant keeps none of them
abbrev pub all_answered : Point → Point
all_answered p = record { plant = record p.plant { core = without_ended p.plant.core }; answered = with_given p.answered (unanswered p) }

-- the context that a transaction ended with, under its id; one that waits on the shelf has not ended
abbrev pub with_ended : ℕ → Option Pairs → List (ℕ × Pairs) → List (ℕ × Pairs)
with_ended id None ended = ended
with_ended id (Some x) ended = insert_entry nat_cmp ended id x

-- its response
abbrev pub response_of : Option Pairs → List (List ℕ)
response_of None = []
response_of (Some x) = with_response (response x) []

-- a history of this many entries is cut between two transactions
abbrev pub is_long : World → Bool
is_long w = nat_le 524288 (length w.past)

-- Between two transactions: no session holds one, every entry is written, every response is given, and none is of a transaction
-- to come.
pub record IsAtRest (p : Point) : Type 0 where
  pub seated : Seated p.plant.core
  pub idle : IsIdle (world_at p)
  pub written : IsAllWritten (world_at p)
  pub given : unanswered p ≡ []
  pub below : p.answered.last < next_at p

-- it is at rest once the responses are given
abbrev pub RestsGiven : Point → Type 0
RestsGiven p = IsAtRest (all_answered p)

-- Ready for a request: at rest, nothing is recovered, the queue is empty, and the history is not long.
pub record IsReady (p : Point) : Type 0 where
  pub rest : IsAtRest p
  pub recovered : recovering (world_at p).flow (world_at p).start (world_at p).past ≡ None
  pub empty : waits (world_at p) ≡ []
  pub short : is_long (world_at p) ≡ false
