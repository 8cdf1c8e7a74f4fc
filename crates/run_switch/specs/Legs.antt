-- What a run does until its input has ended: it answers requests, and sends stored advices between two reads.
--
-- - *Legs* (`Legs.antt`): rounds, and then advices that are sent, one after the other.
--   *Advances*: legs, and then the last rounds. *Stage*: a switch, what sends its advices, and
--   what an output holds.
use Rattle.std.specs.Prelude.{◌≡◌, ℕ, List, [], ◌∷◌, ◌++◌, length, Option, Some}
use Rattle.run_input.specs.declared.arrival.Arrival.{Arrival}
use Rattle.run_input.specs.Arrivals.{readings_of}
use Rattle.run_responses.specs.declared.sink.ResponseOrder.{ResponseOrder}
use Rattle.run_switch.specs.Advices.{AdviceStep, Between, PlainAdvisor}
use Rattle.run_switch.specs.Lines.{Line}
use Rattle.run_switch.specs.Points.{Point}
use Rattle.run_input.specs.Requests.{Reading, headers_in, readings}
use Rattle.run_switch.specs.Rounds.{Round, RoundsFor, Serves}
use Rattle.run_switch.specs.Traces.{Log, Tells}

-- a switch, what sends its advices, and what an output holds, where that is known
pub record Stage : Type 0 where
  pub advisor : PlainAdvisor
  pub point : Point
  pub out : Option (List ℕ)

abbrev pub stage : PlainAdvisor → Point → Option (List ℕ) → Stage
stage advisor point out = record { advisor = advisor; point = point; out = out }

-- A leg: rounds, and then stored advices are sent. These are the lines of the entries that are cut.
pub record Leg (step : AdviceStep) (rounds : List Round) (x : Stage) (lines : List Line) (y : Stage) : Type 0 where
  pub served : Point
  pub serves : Serves rounds x.point x.out served y.out
  pub cut : List Line
  pub between : Between step x.advisor served cut y.advisor y.point
  pub lines_are : lines ≡ serves.lines ++ cut

-- one after the other
abbrev pub Legs : AdviceStep → List (List Round) → Stage → List Line → Stage → Type 0
Legs step [] x lines y = (lines ≡ []) × (y ≡ x)
Legs step (rs ∷ more) x lines y = (first : List Line) × (later : List Line) × (w : Stage) × Leg step rs x first w × Legs step more w later y
    × (lines ≡ first ++ later)

-- the rounds of all legs
abbrev pub rounds_in : List (List Round) → List Round
rounds_in [] = []
rounds_in (rs ∷ more) = rs ++ rounds_in more

-- legs, and then the last rounds
pub record Advances (step : AdviceStep) (rounds : List Round) (x y : Stage) : Type 0 where
  pub legs : List (List Round)
  pub last : List Round
  pub split : rounds ≡ rounds_in legs ++ last
  pub lines : List Line
  pub halfway : Stage
  pub goes : Legs step legs x lines halfway
  pub serves : Serves last halfway.point halfway.out y.point y.out
  pub advisor : y.advisor ≡ halfway.advisor

-- the lines of the entries that were cut
abbrev pub lines_of : {step : AdviceStep} {rounds : List Round} {x y : Stage} → Advances step rounds x y → List Line
lines_of a = a.lines ++ a.serves.lines

-- what was read was answered, or passed over
pub record AdvancesWith (step : AdviceStep) (threads : Option ResponseOrder) (read : List Reading) (x : Stage) (a : Log) (y : Stage) (b : Log) : Type 0 where
  pub rounds : List Round
  pub answers : RoundsFor threads read rounds
  pub advances : Advances step rounds x y
  pub tells : Tells (lines_of advances) (length (headers_in read)) a b

-- the messages of these frames were answered, or passed over
abbrev pub AdvancesFor : ℕ → AdviceStep → Option ResponseOrder → List (List ℕ) → Stage → Log → Stage → Log → Type 0
AdvancesFor header step threads frames x a y b = AdvancesWith step threads (readings header frames) x a y b

-- what came of an input was answered, or passed over
abbrev pub AdvancesBy : AdviceStep → ResponseOrder → List Arrival → Stage → Log → Stage → Log → Type 0
AdvancesBy step order got x a y b = AdvancesWith step (Some order) (readings_of got) x a y b
