use Rattle.tx_machine.proofs.BoundLaws.{opening_proper, reopening_proper, after_proper, row_bounded}
use Rattle.tx_machine.proofs.laws.lists_keep_bounds.Goals as goal

pub returns-clause-opened : goal.returns-clause-opened
returns-clause-opened c = opening_proper

pub returns-clause-reopened : goal.returns-clause-reopened
returns-clause-reopened c = reopening_proper

pub returns-clause-kept : goal.returns-clause-kept
returns-clause-kept c = after_proper

pub returns-clause-row : goal.returns-clause-row
returns-clause-row c = row_bounded
