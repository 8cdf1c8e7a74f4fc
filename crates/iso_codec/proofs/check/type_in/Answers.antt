use Rattle.iso_codec.proofs.DecodeAnswers.{looked_type, looked_none}
use Rattle.iso_codec.proofs.check.type_in.Goals as goal

pub returns-in-Ok : goal.returns-in-Ok
returns-in-Ok c = looked_type c.args.bytes.now _ c.in-Ok.ensures

pub returns-in-Err : goal.returns-in-Err
returns-in-Err c = looked_none c.args.bytes.now _ c.in-Err.ensures
