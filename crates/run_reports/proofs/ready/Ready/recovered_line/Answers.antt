use Rattle.std.proofs.Common.{append_assoc, sym}
use Rattle.run_reports.proofs.ready.Ready.recovered_line.Goals as goal

pub returns : goal.returns
returns c = simp append_assoc (rw (sym c.journal_text-journal.ensures) c.format.ensures.ok)
