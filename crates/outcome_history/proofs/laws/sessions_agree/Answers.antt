use Rattle.outcome_history.proofs.ServedSessions.{taken_same, next_same}
use Rattle.outcome_history.proofs.StatesAgree.{serves_agree, recovering_agree}
use Rattle.outcome_history.proofs.LastEntries.{speaks, last_same, opened_shut}
use Rattle.outcome_history.proofs.laws.sessions_agree.Goals as goal

pub returns : goal.returns
returns c = record {
  serves = serves_agree;
  recovering = recovering_agree;
  taken = taken_same;
  next = next_same;
  speaks = speaks;
  last =
      last_same;
  opening = opened_shut;
}
