use Rattle.outcome_history.proofs.JournalsAgree.{journals_agree}
use Rattle.outcome_history.proofs.laws.journals_agree.Goals as goal

pub returns : goal.returns
returns c = journals_agree
