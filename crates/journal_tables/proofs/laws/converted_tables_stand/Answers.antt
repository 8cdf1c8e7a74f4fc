use Rattle.journal_tables.proofs.Types.{converted_from}
use Rattle.journal_tables.proofs.laws.converted_tables_stand.Goals as goal

pub returns : goal.returns
returns c = converted_from
