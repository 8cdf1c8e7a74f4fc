use Rattle.dialect_toml.proofs.FieldRows.{states_each, states_no_other}
use Rattle.dialect_toml.proofs.laws.each_field_has_its_row.Goals as goal

pub returns-clause-each : goal.returns-clause-each
returns-clause-each c = states_each

pub returns-clause-no_other : goal.returns-clause-no_other
returns-clause-no_other c = states_no_other
