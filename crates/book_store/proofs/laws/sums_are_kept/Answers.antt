use Rattle.book_store.proofs.SumLemmas.{forget_sums, put_sums, reversal_sums}
use Rattle.book_store.proofs.laws.sums_are_kept.Goals as goal

pub returns-clause-put : goal.returns-clause-put
returns-clause-put c = put_sums

pub returns-clause-reversal : goal.returns-clause-reversal
returns-clause-reversal c = reversal_sums

pub returns-clause-forgetting : goal.returns-clause-forgetting
returns-clause-forgetting c = forget_sums
