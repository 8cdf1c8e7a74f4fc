use Rattle.iso_codec.specs.Reads.{read}
use Rattle.iso_codec.proofs.DecodeAnswers.{kept, looked_fault, looked_well}
use Rattle.iso_codec.proofs.read.to_report.Goals as goal

pub returns-in-Ok : goal.returns-in-Ok
returns-in-Ok c = looked_well c.args.bytes.now _ c.in-Ok.ensures

pub returns-in-Err : goal.returns-in-Err
returns-in-Err c = looked_fault c.args.bytes.now c.in-Err.fault c.in-Err.ensures

pub returns-in_default : goal.returns-in_default
returns-in_default c = kept c.args.e (read c.args.bytes.now) c.requires c.in_default.not-OutOfMemory
