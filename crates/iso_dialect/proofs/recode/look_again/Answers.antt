use Rattle.iso_dialect.proofs.LookedMessages.{looked_fault, looked_well}
use Rattle.iso_dialect.proofs.recode.look_again.Goals as goal

pub returns-in-Ok-Some : goal.returns-in-Ok-Some
returns-in-Ok-Some c =
    let h = rw c.in-Ok-Some.field-0-is at c.in-Ok-Some.ensures in
    let w = looked_well c.args.profile.now.rows c.args.text.now _ h in
    (w.m, w.reads, w.first)

pub returns-in-Err : goal.returns-in-Err
returns-in-Err c = looked_fault c.args.profile.now.rows c.args.text.now c.in-Err.fault c.in-Err.ensures

pub returns-in-Ok-None : goal.returns-in-Ok-None
returns-in-Ok-None c =
    let h = rw c.in-Ok-None.field-0-is at c.in-Ok-None.ensures in
    let w = looked_well c.args.profile.now.rows c.args.text.now _ h in
    (w.m, w.reads, w.first)
