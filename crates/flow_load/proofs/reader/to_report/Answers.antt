use Rattle.flow_load.proofs.LookedOver.{looked_fault, looked_memory, looked_well}
use Rattle.flow_load.proofs.reader.to_report.Goals as goal

pub returns-in-Ok-clause-last : goal.returns-in-Ok-clause-last
returns-in-Ok-clause-last c = λ h. looked_well c.args.bytes.now c.in-Ok.ensures

pub returns-in-Err-clause-read : goal.returns-in-Err-clause-read
returns-in-Err-clause-read c = looked_fault c.args.bytes.now c.in-Err.fault c.in-Err.ensures

pub returns-in-Err-clause-last : goal.returns-in-Err-clause-last
returns-in-Err-clause-last c = λ h. absurd (looked_memory c.args.bytes.now c.in-Err.fault h c.in-Err.ensures)
