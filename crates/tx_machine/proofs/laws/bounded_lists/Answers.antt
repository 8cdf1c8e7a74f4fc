use Rattle.tx_machine.proofs.ListLaws.{bounded}
use Rattle.tx_machine.proofs.laws.bounded_lists.Goals as goal

pub returns : goal.returns
returns c = bounded
