use Rattle.outcome_calls.proofs.Examples.{runs, shelves}
use Rattle.outcome_calls.proofs.laws.some_run.Goals as goal

pub returns : goal.returns
returns c = record { recovering = runs; shelving = shelves }
