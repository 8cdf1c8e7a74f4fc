-- What a switch does: recoveries, requests offered, transactions run to their end, legs run, the shelf released.
--
-- - *Recovers, transacts, completes, drains* (`Rounds.antt`): a recovery; one transaction from
--   its take to its end; the same with its response given and a long history cut; the queue and
--   the shelf emptied. *Round*: a request offered, a transaction completed, a header given back, the
--   shelf released, a leg run, or the history cut; *goes*: rounds one after the other, with the bytes that they give.
--   Each is a list of calls of `drive`, as `tx_seats` has them.
-- - *Together* (`Rounds.antt`): the requests of a leg, offered in their order and run by all
--   sessions until nothing is left to do. *Runs*: the same with the responses of its transactions.
--   *Finishes*: what comes after, which is the shelf, and a cut that may be made.
-- - *Rounds for* what was read: each request offered and completed before the next; or, with threads, some
--   of them like this and others in legs, in their order. *Rounds toward* them: the same, where the
--   last ones were not reached.
use Rattle.std.specs.Prelude.{◌≡◌, ◌⊎◌, ℕ, ◌+◌, ⊤, false, List, [], ◌∷◌, ◌++◌, map, drop, Option, Some, None}
use Rattle.std.specs.Io.KnownBytes.{Appends}
use Rattle.std.specs.List.{AllByRecursion}
use Rattle.sw_context.specs.Pairs.{Pairs}
use Rattle.sw_context.specs.Spelling.{bytes_of}
use Rattle.sw_frame.specs.Stream.{AreFramed}
use Rattle.tx_history.specs.History.{recovering, shelf}
use Rattle.tx_engine.specs.World.{World}
use Rattle.tx_engine.specs.Calls.{take_refusal, waits}
use Rattle.tx_plant.specs.declared.turn.Outcome.{Outcome}
use Rattle.tx_plant.specs.declared.turn.Outcome.TheVariants as outcome
use Rattle.tx_plant.specs.declared.turn.Turn.{Turn}
use Rattle.tx_plant.specs.declared.turn.Turn.TheVariants as turn
use Rattle.tx_plant.specs.Recovery.{IsRecovery}
use Rattle.tx_plant.specs.Steps.{Moved}
use Rattle.tx_seats.specs.Drives.{AllDriven, Done, Drive}
use Rattle.tx_locked.specs.Finished.{finished_in}
use Rattle.tx_locked.specs.Receipts.{offered_of, run_entries}
use Rattle.tx_locked.specs.Settled.{IsSettled}
use Rattle.tx_pool.specs.Went.{Grown}
use Rattle.run_input.specs.Requests.{Readable, Reading, Unreadable, headers_in, requests_in}
use Rattle.run_responses.specs.declared.sink.ResponseOrder.{ResponseOrder}
use Rattle.run_responses.specs.declared.sink.ResponseOrder.TheVariants.{ByEnd, ById}
use Rattle.run_responses.specs.Giving.{AreFound}
use Rattle.run_switch.specs.Lines.{Line, lines_in}
use Rattle.run_switch.specs.Points.{IsAllWritten, IsAtRest, IsIdle, IsReady, Point, all_answered, ended_at, is_long, next_at, response_of, unanswered}
use Rattle.run_responses.specs.Responses.{responses}
use Rattle.run_switch.specs.Points.{with_ended, world_at}

-- calls of `drive`, one after the other; no response is given in between
pub record Acts (drives : List Drive) (p q : Point) : Type 0 where
  pub moved : List Moved
  pub driven : AllDriven drives moved p.plant q.plant
  pub answered : q.answered ≡ p.answered

-- a turn and the write of its entry, with their outcomes
abbrev pub doing : Turn → Outcome × Outcome → Drive
doing t o = Done (t ∷ turn.Write None ∷ []) (o.0 ∷ o.1 ∷ [])

-- every outcome but a refusal
abbrev pub IsDone : Outcome → Type 0
IsDone (outcome.Refused e) = ⊥
IsDone o = ⊤

-- the turn was done, with this outcome, and all is written
pub record Does (t : Turn) (o : Outcome) (p q : Point) : Type 0 where
  pub wrote : Outcome
  pub acts : Acts (doing t (o, wrote) ∷ []) p q
  pub done : IsDone o
  pub written : IsAllWritten (world_at q)

-- One transaction, from its take to its end: session 0 takes the queue's first context, under the next id, and is stepped until
-- it is idle. `own` is the context that the transaction ended with; one that was put on the shelf has none.
pub record Transacts (p : Point) (own : Option Pairs) (q : Point) : Type 0 where
  pub took : Outcome × Outcome
  pub steps : List (Outcome × Outcome)
  pub acts : Acts (doing (turn.Take 0) took ∷ map (doing (turn.Step 0)) steps) p q
  pub allowed : take_refusal (world_at p) 0 ≡ None
  pub queue : waits (world_at q) ≡ drop 1 (waits (world_at p))
  pub next : next_at q ≡ next_at p + 1
  pub ended : ended_at q ≡ with_ended (next_at p) own (ended_at p)
  pub idle : IsIdle (world_at q)
  pub written : IsAllWritten (world_at q)

-- The history is cut or not, and is not long then. These are the lines of the entries that are cut.
pub record MayCut (p : Point) (lines : List Line) (q : Point) : Type 0 where
  pub cuts : ((q ≡ p) × (lines ≡ [])) ⊎ ((o : Outcome) × Does turn.Cut o p q × (lines ≡ lines_in (world_at p)))
  pub short : is_long (world_at q) ≡ false

-- A transaction runs to its end; then its response is given, and no other. The history may be cut.
pub record Completes (p : Point) (bytes : List ℕ) (lines : List Line) (q : Point) : Type 0 where
  pub own : Option Pairs
  pub ended : Point
  pub transacts : Transacts p own ended
  pub gives : AreFramed bytes (response_of own)
  pub cuts : MayCut (all_answered ended) lines q
  pub rest : IsAtRest q

-- A leg: the requests are offered, in their order, and run by all sessions at once, until nothing waits, no session holds a
-- transaction, and all is written. It is one call of `drive`.
pub record Together (requests : List Pairs) (p q : Point) : Type 0 where
  pub turns : List Turn
  pub outcomes : List Outcome
  pub acts : Acts (Done turns outcomes ∷ []) p q
  pub grown : Grown (world_at p) (world_at q)
  pub offered : offered_of (run_entries (world_at p) (world_at q)) ≡ map bytes_of requests
  pub settled : IsSettled (world_at q)

-- The transactions of a leg whose responses are given, in their order: by their ids, all that ended; or those that the entries of the
-- leg ended by done, in the order of their ends, each with the context that it ended with.
abbrev pub AreOrdered : ResponseOrder → Point → Point → List (ℕ × Pairs) → Type 0
AreOrdered ById p q list = list ≡ unanswered q
AreOrdered ByEnd p q list = (map (λ e. e.0) list ≡ finished_in (run_entries (world_at p) (world_at q))) × AreFound (ended_at q) list

-- A leg is run, and the responses of its transactions are given, in this order.
pub record Runs (order : ResponseOrder) (requests : List Pairs) (p : Point) (bytes : List ℕ) (q : Point) : Type 0 where
  pub ended : Point
  pub together : Together requests p ended
  pub list : List (ℕ × Pairs)
  pub ordered : AreOrdered order p ended list
  pub gives : AreFramed bytes (responses list)
  pub answered : q ≡ all_answered ended

-- what is done, from one response to the next
pub data Round : Type 0 where
  Offered : (request : Pairs) → Round
  Completed : Round
  Returned : (header : List ℕ) → Round
  Released : Round
  Streamed : (order : ResponseOrder) → (requests : List Pairs) → Round
  Trimmed : Round

-- the header that is given back; one without bytes is not
abbrev pub if_header : List ℕ → List (List ℕ)
if_header [] = []
if_header (byte ∷ more) = (byte ∷ more) ∷ []

-- One after the other, with what they give, and the lines of the entries that are cut. A request is offered, or a leg begun, only
-- when the switch is ready for it.
abbrev pub Goes : List Round → Point → List ℕ → List Line → Point → Type 0
Goes [] p bytes lines q = (bytes ≡ []) × (lines ≡ []) × (q ≡ p)
Goes (Offered x ∷ rs) p bytes lines q = IsReady p × (o : Outcome) × (w : Point) × Does (turn.Offer x) o p w × Goes rs w bytes lines q
Goes (Completed ∷ rs) p bytes lines q =
    (w : Point) × (first : List ℕ) × (later : List ℕ) × (cut : List Line) × (others : List Line)
    × Completes p first cut w × Goes rs w later others q × (bytes ≡ first ++ later) × (lines ≡ cut ++ others)
Goes (Returned h ∷ rs) p bytes lines q =
    (first : List ℕ) × (later : List ℕ) × AreFramed first (if_header h) × Goes rs p later lines q × (bytes ≡ first ++ later)
Goes (Released ∷ rs) p bytes lines q = (o : Outcome) × (w : Point) × Does turn.Release o p w × Goes rs w bytes lines q
Goes (Streamed order xs ∷ rs) p bytes lines q = IsReady p × (w : Point) × (first : List ℕ) × (later : List ℕ) × Runs order xs p first w
    × Goes rs w later lines q × (bytes ≡ first ++ later)
Goes (Trimmed ∷ rs) p bytes lines q = (w : Point) × (cut : List Line) × (others : List Line) × MayCut p cut w × Goes rs w bytes others q
    × (lines ≡ cut ++ others)

-- each request is offered, and the queue's first transaction runs to its end before the next is; of a message that cannot be read the
-- header is given back
abbrev pub answering : List Reading → List Round
answering [] = []
answering (Readable x ∷ rs) = Offered x ∷ Completed ∷ answering rs
answering (Unreadable h ∷ rs) = Returned h ∷ answering rs

-- the requests alone
abbrev pub offering : List Pairs → List Round
offering [] = []
offering (x ∷ xs) = Offered x ∷ Completed ∷ offering xs

-- the headers alone
abbrev pub returning : List (List ℕ) → List Round
returning hs = map Returned hs

-- without the cuts between two transactions
abbrev pub untrimmed : List Round → List Round
untrimmed [] = []
untrimmed (Trimmed ∷ rs) = untrimmed rs
untrimmed (r ∷ rs) = r ∷ untrimmed rs

-- no request is offered any more
abbrev pub IsRetry : Round → Type 0
IsRetry Completed = ⊤
IsRetry Released = ⊤
IsRetry _ = ⊥

-- with threads: requests are offered in turn or in legs, and the responses of each leg leave in this order
abbrev pub IsOfStream : ResponseOrder → Round → Type 0
IsOfStream order (Streamed own xs) = own ≡ order
IsOfStream order _ = ⊤

-- the requests that are offered, in their order
abbrev pub offered_in : List Round → List Pairs
offered_in [] = []
offered_in (Offered x ∷ rs) = x ∷ offered_in rs
offered_in (Streamed order xs ∷ rs) = xs ++ offered_in rs
offered_in (_ ∷ rs) = offered_in rs

-- the headers that are given back, in their order
abbrev pub returned_in : List Round → List (List ℕ)
returned_in [] = []
returned_in (Returned h ∷ rs) = h ∷ returned_in rs
returned_in (_ ∷ rs) = returned_in rs

-- rounds, with what an output holds before and after, where that is known, and the lines of the entries that are cut
pub record Serves (rounds : List Round) (p : Point) (before : Option (List ℕ)) (q : Point) (after : Option (List ℕ)) : Type 0 where
  pub bytes : List ℕ
  pub lines : List Line
  pub goes : Goes rounds p bytes lines q
  pub appends : Appends before after bytes

-- with threads: these requests are offered and these headers given back, each in its order, and the responses of each leg leave in this order
pub record AreOfStream (order : ResponseOrder) (requests : List Pairs) (headers : List (List ℕ)) (rounds : List Round) : Type 0 where
  pub offered : offered_in rounds ≡ requests
  pub returned : returned_in rounds ≡ headers
  pub of_stream : AllByRecursion (IsOfStream order) rounds

-- Rounds that answer what was read: without threads one after the other, with threads one after the other or in legs, whose responses
-- leave in the order that is given. The history may be cut between them.
abbrev pub RoundsFor : Option ResponseOrder → List Reading → List Round → Type 0
RoundsFor None read rounds = untrimmed rounds ≡ answering read
RoundsFor (Some order) read rounds = AreOfStream order (requests_in read) (headers_in read) rounds

-- rounds on the way to that: with threads, the last requests and headers may be missing
abbrev pub RoundsToward : Option ResponseOrder → List Reading → List Round → Type 0
RoundsToward None read rounds = untrimmed rounds ≡ answering read
RoundsToward (Some order) read rounds = (requests : List Pairs) × (headers : List (List ℕ)) × (later : List Pairs) × (behind : List (List ℕ))
    × (requests_in read ≡ requests ++ later) × (headers_in read ≡ headers ++ behind) × AreOfStream order requests headers rounds

-- what was read is answered
abbrev pub ServesFor : Option ResponseOrder → List Reading → Point → Option (List ℕ) → Point → Option (List ℕ) → Type 0
ServesFor threads read p before q after = (rounds : List Round) × RoundsFor threads read rounds × Serves rounds p before q after

-- nothing waits
pub record IsEmptied (w : World) : Type 0 where
  pub queue : waits w ≡ []
  pub shelf : shelf w.flow w.start w.past ≡ []

-- the queue and the shelf are emptied
pub record Drains (p : Point) (before : Option (List ℕ)) (q : Point) (after : Option (List ℕ)) : Type 0 where
  pub rounds : List Round
  pub retries : AllByRecursion IsRetry rounds
  pub serves : Serves rounds p before q after
  pub rest : IsAtRest q
  pub emptied : IsEmptied (world_at q)

-- A recovery: turns that only write or step session 0. Then nothing is left to recover, and nothing waits in the queue.
pub record Recovers (p q : Point) : Type 0 where
  pub turns : List Turn
  pub outcomes : List Outcome
  pub wrote : Outcome
  pub own : AllByRecursion IsRecovery turns
  pub acts : Acts (Done turns outcomes ∷ Done (turn.Write None ∷ []) (wrote ∷ []) ∷ []) p q
  pub rest : IsAtRest q
  pub recovered : recovering (world_at q).flow (world_at q).start (world_at q).past ≡ None
  pub empty : waits (world_at q) ≡ []
