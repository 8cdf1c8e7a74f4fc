use Rattle.journal_store.proofs.HistoryChanges.{entry_fits}
use Rattle.journal_store.proofs.laws.entries_fit.Goals as goal

pub returns : goal.returns
returns c = entry_fits
