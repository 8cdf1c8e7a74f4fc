use Rattle.iso_codec.specs.Reads.{read}
use Rattle.iso_dialect.proofs.Recoding.{kept_fault}
use Rattle.iso_dialect.proofs.recode.to_report.Goals as goal

pub returns-in_default : goal.returns-in_default
returns-in_default c = kept_fault c.args.e (read c.args.text.now) c.requires c.in_default.not-OutOfMemory
