use Rattle.tx_history.proofs.CheckedFlows.{checked_fits}
use Rattle.tx_history.proofs.laws.checked_flows_fit.Goals as goal

pub returns : goal.returns
returns c = checked_fits
