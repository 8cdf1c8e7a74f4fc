use Rattle.outcome_calls.proofs.OwnStates.{items, rows, dues, reopens_due, told_rows}
use Rattle.outcome_calls.proofs.laws.table_words.Goals as goal

pub returns : goal.returns
returns c = record { items = items; rows = rows; dues = dues; told = told_rows; recovery = reopens_due }
