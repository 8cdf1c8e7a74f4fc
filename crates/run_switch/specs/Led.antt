-- A leg that was run.
--
-- - *Led* (`Led.antt`): a leg that ended well: the requests that its source gave were run, and the responses of its transactions given.
--   *Took some*: what a sink took of a leg that did not end well.
use Rattle.std.specs.Prelude.{◌≡◌, ℕ, List, ◌++◌, Option}
use Rattle.std.specs.Io.KnownBytes.{Appends}
use Rattle.sw_context.specs.Pairs.{Pairs}
use Rattle.sw_frame.specs.Stream.{AreFramed}
use Rattle.tx_plant.specs.Core.{Core}
use Rattle.tx_locked.specs.declared.finished.Finished.{Finished}
use Rattle.tx_locked.specs.Finished.{WereKept}
use Rattle.tx_pool.specs.Sinks.{TakesAll}
use Rattle.run_responses.specs.declared.sink.ResponseOrder.{ResponseOrder}
use Rattle.run_responses.specs.Responses.{responses}
use Rattle.run_switch.specs.Points.{Point}
use Rattle.run_switch.specs.Rounds.{AreOrdered, Together}

-- the sink took these transactions, each with a context that it had ended with at a moment of the leg
pub record TookSome {Z : Type 0} (takes : Z → ℕ → Pairs → Z → Type 0) (start : Core) (z y : Z) : Type 0 where
  pub some : List Finished
  pub took : TakesAll takes z some y
  pub were : WereKept start some

-- A leg ended well: the requests that its source gave since were run, and the responses of its transactions are given, in this order.
pub record Led (order : ResponseOrder) (given then : List Pairs) (p e : Point) (before after : Option (List ℕ)) : Type 0 where
  pub requests : List Pairs
  pub heard : then ≡ given ++ requests
  pub together : Together requests p e
  pub list : List (ℕ × Pairs)
  pub ordered : AreOrdered order p e list
  pub text : List ℕ
  pub framed : AreFramed text (responses list)
  pub gives : Appends before after text
