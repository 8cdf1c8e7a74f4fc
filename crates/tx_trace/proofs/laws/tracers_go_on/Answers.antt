use Rattle.tx_trace.proofs.Earlier.{follows_entry, follows_mark}
use Rattle.tx_trace.proofs.laws.tracers_go_on.Goals as goal

pub returns-clause-entry : goal.returns-clause-entry
returns-clause-entry c = follows_entry

pub returns-clause-mark : goal.returns-clause-mark
returns-clause-mark c = follows_mark
