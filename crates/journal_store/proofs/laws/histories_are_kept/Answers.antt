use Rattle.journal_store.proofs.HistoryChanges.{history_kept}
use Rattle.journal_store.proofs.laws.histories_are_kept.Goals as goal

pub returns : goal.returns
returns c = history_kept
