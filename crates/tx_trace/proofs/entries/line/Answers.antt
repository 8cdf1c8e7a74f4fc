use Rattle.std.proofs.Common.{sym}
use Rattle.tx_trace.proofs.Earlier.{line_zero}
use Rattle.tx_trace.proofs.entries.line.Goals as goal

pub returns-then-number-eq0 : goal.returns-then-number-eq0
returns-then-number-eq0 c = rw c.if-number-eq0.true (sym (line_zero c.args.engine.now.flow c.args.engine.now.start c.args.engine.now.past))
