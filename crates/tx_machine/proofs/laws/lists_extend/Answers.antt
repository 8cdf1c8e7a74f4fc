use Rattle.tx_machine.proofs.BoundLaws.{after_one_more, lawful_one_more, newest_is_after}
use Rattle.tx_machine.proofs.laws.lists_extend.Goals as goal

pub returns-clause-after : goal.returns-clause-after
returns-clause-after c = after_one_more

pub returns-clause-lawful : goal.returns-clause-lawful
returns-clause-lawful c = lawful_one_more

pub returns-clause-newest : goal.returns-clause-newest
returns-clause-newest c = newest_is_after
