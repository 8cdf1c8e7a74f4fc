use Rattle.tx_history.proofs.Changes.{leads, journal_written}
use Rattle.tx_history.proofs.laws.changes_lead_on.Goals as goal

pub returns : goal.returns
returns c = record { each = leads; all = journal_written }
