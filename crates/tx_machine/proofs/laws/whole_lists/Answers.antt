use Rattle.tx_machine.proofs.ListLaws.{whole}
use Rattle.tx_machine.proofs.laws.whole_lists.Goals as goal

pub returns : goal.returns
returns c = whole
