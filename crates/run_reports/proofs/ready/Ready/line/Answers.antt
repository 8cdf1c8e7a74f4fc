use Rattle.std.proofs.Common.{append_assoc, sym}
use Rattle.run_reports.proofs.ready.Ready.line.Goals as goal

pub returns : goal.returns
returns c = simp append_assoc (rw (sym c.as_str-flow.ensures, sym c.journal_text-journal.ensures, sym c.in_ok-hosts.ensures) c.format.ensures.ok)
