use Rattle.journal_store.proofs.ViewReads.{means_of}
use Rattle.journal_store.proofs.viewing.viewed.Goals as goal

pub returns-clause-means : goal.returns-clause-means
returns-clause-means c t holds = means_of t c.read_as.result (c.read_as.ensures.reads t holds)
