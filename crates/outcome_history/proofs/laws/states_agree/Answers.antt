use Rattle.outcome_history.proofs.StatesAgree.{states_agree}
use Rattle.outcome_history.proofs.StandingStates.{of_this_life, of_the_journal, untaken, closed_gone, rowless_gone}
use Rattle.outcome_history.proofs.laws.states_agree.Goals as goal

pub returns : goal.returns
returns c = record {
  whole = λ f v past id o law. states_agree f v past o law id;
  taken = of_this_life;
  journalled = of_the_journal;
  untaken =
      untaken;
  closed = closed_gone;
  rowless = rowless_gone;
}
