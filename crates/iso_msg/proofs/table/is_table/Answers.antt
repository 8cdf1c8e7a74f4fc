use Rattle.std.proofs.Common.{refl}
use Rattle.iso_msg.specs.Table.{definition_of, rows}
use Rattle.iso_msg.proofs.table.is_table.Goals as goal

pub returns : goal.returns
unfolding definition_of rows
returns c = refl
