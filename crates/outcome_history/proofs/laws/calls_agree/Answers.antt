use Rattle.outcome_history.proofs.RestoredAgree.{restored_same, restored_now}
use Rattle.outcome_history.proofs.CallsAgree.{calls_agree}
use Rattle.outcome_history.proofs.laws.calls_agree.Goals as goal

pub returns : goal.returns
returns c = record { calls = calls_agree; restored = restored_same; others = restored_now }
