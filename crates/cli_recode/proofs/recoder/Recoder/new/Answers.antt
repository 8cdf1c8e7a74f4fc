use Rattle.std.proofs.Common.{refl}
use Rattle.cli_recode.proofs.Pieces.{begun_after}
use Rattle.cli_recode.proofs.recoder.Recoder.new.Goals as goal

pub returns-clause-begun : goal.returns-clause-begun
returns-clause-begun c job = begun_after c.args.form job _ c.new.ensures refl
