use Rattle.tx_history.proofs.Rows.{rows_bounded}
use Rattle.tx_history.proofs.laws.rows_are_bounded.Goals as goal

pub returns : goal.returns
returns c = rows_bounded
