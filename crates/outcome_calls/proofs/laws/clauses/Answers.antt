use Rattle.outcome_calls.proofs.Cuts.{cut_good}
use Rattle.outcome_calls.proofs.Words.{told_again, restored_again, no_stop_in, adds, told_way}
use Rattle.outcome_calls.proofs.laws.clauses.Goals as goal

pub returns : goal.returns
returns c = record { told_again = told_again; recovered_again = restored_again; no_stop_in = no_stop_in; told_way = told_way; cut = cut_good; adds = adds }
