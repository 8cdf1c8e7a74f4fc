use Rattle.iso_dialect.specs.Readings.{read_as}
use Rattle.iso_dialect.proofs.Answering.{kept_fault, looked_fault, looked_well}
use Rattle.iso_dialect.proofs.decode.to_report.Goals as goal

pub returns-in-Ok : goal.returns-in-Ok
returns-in-Ok c = looked_well c.args.profile.now c.args.bytes.now c.in-Ok.ensures

pub returns-in-Err : goal.returns-in-Err
returns-in-Err c = looked_fault c.args.profile.now c.args.bytes.now c.in-Err.fault c.in-Err.ensures

pub returns-in_default : goal.returns-in_default
returns-in_default c = kept_fault c.args.e (read_as c.args.profile.now c.args.bytes.now) c.requires c.in_default.not-OutOfMemory
