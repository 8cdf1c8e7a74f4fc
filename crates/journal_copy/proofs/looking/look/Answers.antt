use Rattle.std.proofs.Common.{refl}
use Rattle.std.proofs.lemmas.Result.{IfErr-weaker, IfOk-weaker}
use Rattle.journal_copy.proofs.Copying.{holds_fault, holds_journal}
use Rattle.journal_copy.proofs.looking.look.Goals as goal

pub returns-in-Ok-clause-found : goal.returns-in-Ok-clause-found
returns-in-Ok-clause-found c =
    let disks = c.in_ok-disks_of.ensures in
    IfOk-weaker c.found_by.result _ _ (λ f h. holds_journal c.args.db.now c.args.log.now c.in_ok-disks_of.field-0 c.in-Ok.conn f disks.log disks.db
    c.in-Ok.ensures.opened c.in-Ok.ensures.found h (λ d. refl)) c.found_by.ensures.found

pub returns-in-Ok-clause-bad : goal.returns-in-Ok-clause-bad
returns-in-Ok-clause-bad c =
    let disks = c.in_ok-disks_of.ensures in
    IfErr-weaker c.found_by.result _ _ (λ e h. holds_fault c.args.db.now c.args.log.now c.in_ok-disks_of.field-0 c.in-Ok.conn e disks.log disks.db
    c.in-Ok.ensures.found h (λ d. refl)) c.found_by.ensures.bad
