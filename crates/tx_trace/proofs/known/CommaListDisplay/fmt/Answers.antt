use Rattle.tx_trace.proofs.known.CommaListDisplay.fmt.Goals as goal

pub returns-in-Some-clause-writes : goal.returns-in-Some-clause-writes
returns-in-Some-clause-writes g c = rw c.in-Some.ensures.cases.0 c.write.ensures.writes
