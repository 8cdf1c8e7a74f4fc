-- What a run that ends with an error has written.
use Rattle.std.specs.Prelude.{◌≡◌, ◌⊎◌, ℕ, List, [], ◌∷◌, ◌++◌, map, Option, Some, None}
use Rattle.std.specs.Io.KnownBytes.{Keeps}
use Rattle.std.specs.List.{AllByRecursion}
use Rattle.cli_io.specs.Written.{AppendsBeginning}
use Rattle.sw_context.specs.Pairs.{Pairs}
use Rattle.sw_frame.specs.Stream.{AreFramed, State}
use Rattle.tx_locked.specs.Finished.{WereKept}
use Rattle.run_input.specs.declared.arrival.Arrival.{Arrival}
use Rattle.run_input.specs.Arrivals.{readings_of}
use Rattle.run_responses.specs.declared.sink.ResponseOrder.{ResponseOrder}
use Rattle.run_responses.specs.Giving.{AreFound}
use Rattle.flow_model.specs.declared.flow.Flow.{Flow}
use Rattle.tx_plant.specs.Plant.{Seen}
use Rattle.run_input.specs.declared.frames.StreamEnd.{StreamEnd}
use Rattle.run_switch.specs.Points.{IsReady, Point, ended_at, response_of, unanswered, world_at}
use Rattle.run_responses.specs.Responses.{responses}
use Rattle.run_switch.specs.Rounds.{Completed, IsRetry, MayCut, Returned, Round, RoundsFor, RoundsToward, Serves, Streamed, Together, Transacts, if_header}
use Rattle.run_switch.specs.declared.reporter.LineForm.TheVariants.{Text}
use Rattle.run_switch.specs.Lines.{Line, lines_in, written_as}
use Rattle.sw_issuers.specs.Sending.{PlainSender}
use Rattle.run_switch.specs.Advices.{AdviceStep, PlainAdvisor, begun_advisor}
use Rattle.run_switch.specs.Legs.{Advances, Stage, stage}
use Rattle.run_switch.specs.Ran.{Begins}
use Rattle.run_input.specs.Requests.{BeginsWith, ReadTo, Reading, Reads, readings}

-- the next transaction ran to its end, and this is the frame of its response
pub record Answers (p : Point) (text : List ℕ) : Type 0 where
  pub own : Option Pairs
  pub ended : Point
  pub transacts : Transacts p own ended
  pub framed : AreFramed text (response_of own)

-- Each of these transactions had ended with its context: at a moment of a leg that did not end well, or when the leg had ended.
abbrev pub HadEnded : Point → List (ℕ × Pairs) → Type 0
HadEnded p list = WereKept p.plant.core (map (λ e. record { id = e.0; context = e.1 }) list)
    ⊎ ((requests : List Pairs) × (ended : Point) × Together requests p ended × AreFound (ended_at ended) list)

-- these are the frames of the responses of transactions that had ended in a leg
pub record AnswersSome (p : Point) (text : List ℕ) : Type 0 where
  pub list : List (ℕ × Pairs)
  pub had_ended : HadEnded p list
  pub framed : AreFramed text (responses list)

-- what the next round was to give: nothing, the response of a transaction that ran to its end, a header, or responses of a leg
abbrev pub IsOfNext : List Round → Point → List ℕ → Type 0
IsOfNext (Completed ∷ rounds) p text = (text ≡ []) ⊎ Answers p text
IsOfNext (Returned h ∷ rounds) p text = (text ≡ []) ⊎ AreFramed text (if_header h)
IsOfNext (Streamed order xs ∷ rounds) p text = (text ≡ []) ⊎ AnswersSome p text
IsOfNext rounds p text = text ≡ []

-- a beginning of responses of a leg is written
abbrev pub GivesEnded : Point → Option (List ℕ) → Option (List ℕ) → Type 0
GivesEnded p before after = (text : List ℕ) × ((text ≡ []) ⊎ AnswersSome p text) × AppendsBeginning before after text

-- a beginning of the responses that were to be given is written
abbrev pub GivesSome : Point → Option (List ℕ) → Option (List ℕ) → Type 0
GivesSome p before after = (text : List ℕ) × ((text ≡ []) ⊎ AreFramed text (responses (unanswered p))) × AppendsBeginning before after text

-- The first of these rounds were done, and all that they give is written, and then a beginning of what the next one was to give.
pub record Halts (rounds : List Round) (p : Point) (before after : Option (List ℕ)) : Type 0 where
  pub done : List Round
  pub rest : List Round
  pub order : rounds ≡ done ++ rest
  pub at : Point
  pub between : Option (List ℕ)
  pub serves : Serves done p before at between
  pub next : List ℕ
  pub is_next : IsOfNext rest at next
  pub written : AppendsBeginning between after next

-- some of what was read was answered, with or without threads, up to an error
abbrev pub HaltsToward : Option ResponseOrder → List Reading → Point → Option (List ℕ) → Option (List ℕ) → Type 0
HaltsToward threads read p before after = (rounds : List Round) × RoundsToward threads read rounds × Halts rounds p before after

-- of an input read so far, more was answered, up to an error
abbrev pub HaltsOn : ℕ → Option ResponseOrder → Option (List ℕ) → State → Point → Option (List ℕ) → Option (List ℕ) → Type 0
HaltsOn header threads left s p before after = (input : Option (List ℕ)) (frames : List (List ℕ)) → Reads input left frames s
    → (more : List (List ℕ)) × BeginsWith input (frames ++ more) × HaltsToward threads (readings header more) p before after

-- the first of what was read was answered, with advices sent in between, and some of the rest, up to an error
pub record HaltsLater (step : AdviceStep) (threads : Option ResponseOrder) (all : List Reading) (x : Stage) (after : Option (List ℕ)) : Type 0 where
  pub first : List Reading
  pub later : List Reading
  pub order : all ≡ first ++ later
  pub rounds : List Round
  pub answers : RoundsFor threads first rounds
  pub reached : Stage
  pub advances : Advances step rounds x reached
  pub halts : HaltsToward threads later reached.point reached.out after

-- Of an input so much was heard that these came of it; of what may come next some was answered, up to an error.
pub record HaltsHeard (header : ℕ) (order : ResponseOrder) (input : Option (List ℕ)) (got : List Arrival) (p : Point) (before after : Option (List ℕ)) : Type 0 where
  pub frames : List (List ℕ)
  pub begins : BeginsWith input frames
  pub later : List Reading
  pub readings_are : readings header frames ≡ readings_of got ++ later
  pub halts : HaltsToward (Some order) later p before after

-- these rounds were done, and then the queue and the shelf were emptied, up to an error
pub record HaltsThen (rounds : List Round) (p : Point) (before after : Option (List ℕ)) : Type 0 where
  pub retries : List Round
  pub are_retries : AllByRecursion IsRetry retries
  pub halts : Halts (rounds ++ retries) p before after

-- what is at the beginning of an input was answered, up to an error
pub record StopsWithin (header : ℕ) (step : AdviceStep) (threads : Option ResponseOrder) (input : Option (List ℕ)) (x : Stage) (after : Option (List ℕ)) : Type 0 where
  pub frames : List (List ℕ)
  pub begins : BeginsWith input frames
  pub halts : HaltsLater step threads (readings header frames) x after

-- the queue and the shelf were emptied, up to an error
pub record DrainsSome (p : Point) (before after : Option (List ℕ)) : Type 0 where
  pub rounds : List Round
  pub retries : AllByRecursion IsRetry rounds
  pub halts : Halts rounds p before after

-- all requests of an input were answered; then the queue and the shelf were emptied, up to an error
pub record StopsAfter (header : ℕ) (step : AdviceStep) (threads : Option ResponseOrder) (input : Option (List ℕ)) (x : Stage) (after : Option (List ℕ)) : Type 0 where
  pub end : StreamEnd
  pub frames : List (List ℕ)
  pub read : ReadTo end input frames
  pub rounds : List Round
  pub answers : RoundsFor threads (readings header frames) rounds
  pub served : Stage
  pub advances : Advances step rounds x served
  pub drains : DrainsSome served.point served.out after

-- the history may be cut, and what an input has was served, up to an error
pub record Serving (header : ℕ) (step : AdviceStep) (threads : Option ResponseOrder) (input : Option (List ℕ)) (p : Point) (advisor : PlainAdvisor) (before after : Option (List ℕ)) :
    Type 0 where
  pub begun : Point
  pub cut : List Line
  pub cuts : MayCut p cut begun
  pub ready : IsReady begun
  pub serves : StopsWithin header step threads input (stage advisor begun before) after ⊎ StopsAfter header step threads input (stage advisor begun before) after

-- nothing was written, or what an input has was served, up to an error
abbrev pub ServesSome : ℕ → AdviceStep → Option ResponseOrder → Option (List ℕ) → Point → PlainAdvisor → Option (List ℕ) → Option (List ℕ) → Type 0
ServesSome header step threads input p advisor before after = Keeps before after ⊎ Serving header step threads input p advisor before after

-- after a run has begun, with or without an input: what that has was served, or the lines of the history were printed, up to an error
abbrev pub GoesOnSome : ℕ → AdviceStep → Option ResponseOrder → Option (Option (List ℕ)) → Point → PlainAdvisor → Option (List ℕ) → Option (List ℕ) → Type 0
GoesOnSome header step threads None p advisor before after = AppendsBeginning before after (written_as Text (lines_in (world_at p)))
GoesOnSome header step threads (Some input) p advisor before after = ServesSome header step threads input p advisor before after

-- a run with an input recovered, and served up to an error
pub record Stopped (header : ℕ) (step : AdviceStep) (sender : PlainSender) (most : ℕ) (threads : Option ResponseOrder) (f : Flow) (sessions : ℕ) (j : Seen)
    (input before after : Option (List ℕ)) : Type 0 where
  pub recovered : Point
  pub begins : Begins f sessions j recovered
  pub serves : Serving header step threads input recovered (begun_advisor sender most begins.view.next_id) before after

-- a run without one recovered, and wrote a beginning of the lines of its history
pub record Unprinted (f : Flow) (sessions : ℕ) (j : Seen) (before after : Option (List ℕ)) : Type 0 where
  pub recovered : Point
  pub begins : Begins f sessions j recovered
  pub written : AppendsBeginning before after (written_as Text (lines_in (world_at recovered)))

-- a run, with or without an input, recovered, and then ended with an error
abbrev pub StopsWith : ℕ → AdviceStep → PlainSender → ℕ → Option ResponseOrder → Option (Option (List ℕ)) → Flow → ℕ → Seen → Option (List ℕ) → Option (List ℕ) → Type 0
StopsWith header step sender most threads None f sessions j before after = Unprinted f sessions j before after
StopsWith header step sender most threads (Some input) f sessions j before after = Stopped header step sender most threads f sessions j input before after

-- a run, with or without an input, ended with an error: before anything was written, or as above
abbrev pub IsStopped : ℕ → AdviceStep → PlainSender → ℕ → Option ResponseOrder → Option (Option (List ℕ)) → Flow → ℕ → Seen → Option (List ℕ) → Option (List ℕ) → Type 0
IsStopped header step sender most threads input f sessions j before after = Keeps before after ⊎ StopsWith header step sender most threads input f sessions j before after
