use Rattle.cli_io.proofs.Quotations.{printable_text}
use Rattle.cli_io.proofs.quoted.QuotedDisplay.fmt.Goals as goal

pub unreachable-requires : goal.unreachable-requires
unreachable-requires g c = c.in_default.ensures.cases.0 (printable_text _ c.self.invariant.printable)
