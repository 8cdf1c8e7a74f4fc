use Rattle.outcome_calls.proofs.CoreMoves.{law_kept, law_blank}
use Rattle.outcome_calls.proofs.laws.outcome_law.Goals as goal

pub returns : goal.returns
returns c = record { kept = law_kept; blank = law_blank }
