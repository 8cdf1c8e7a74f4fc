use Rattle.cli_io.proofs.Quotations.{quoted_printable, quoted_short}
use Rattle.cli_io.proofs.quoted.quotations_are_short.Goals as goal

pub returns-clause-printable : goal.returns-clause-printable
returns-clause-printable c = quoted_printable c.args.bytes.now

pub returns-clause-short : goal.returns-clause-short
returns-clause-short c = quoted_short c.args.bytes.now
