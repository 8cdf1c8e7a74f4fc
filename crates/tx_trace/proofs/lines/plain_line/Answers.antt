use Rattle.std.proofs.Common.{append_assoc}
use Rattle.tx_trace.proofs.lines.plain_line.Goals as goal

pub returns-in-Acked : goal.returns-in-Acked
returns-in-Acked c = rw c.in-Acked.is (simp append_assoc c.format-in-Acked.ensures.ok)
