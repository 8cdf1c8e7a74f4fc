use Rattle.outcome_history.proofs.LookedRows.{view_fits}
use Rattle.outcome_history.proofs.OpeningClosings.{closings_shut}
use Rattle.outcome_history.proofs.laws.views_fit.Goals as goal

pub returns : goal.returns
returns c = record { fits = view_fits; shuts = closings_shut }
