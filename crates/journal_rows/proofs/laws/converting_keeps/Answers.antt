use Rattle.journal_rows.proofs.ConvertedRows.{all_stay}
use Rattle.journal_rows.proofs.laws.converting_keeps.Goals as goal

pub returns : goal.returns
returns c = all_stay
