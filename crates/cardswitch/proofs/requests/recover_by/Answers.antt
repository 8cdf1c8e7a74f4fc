use Rattle.std.proofs.Common.{ap}
use Rattle.run_setup.specs.Plans.{PlainSetup}
use Rattle.cardswitch.proofs.Answering.{recovered_by, taken, unrecovered}
use Rattle.cardswitch.proofs.requests.recover_by.Goals as goal

pub returns-clause-recovered : goal.returns-clause-recovered
returns-clause-recovered g c =
    taken _ c.args.code c.args.config c.in_ok-steps.steps c.in_ok-stated.stated c.in_ok-steps.was c.in_ok-stated.was
    (rw c.in_file.ensures (recovered_by _ c.in_ok-steps.steps c.in_ok-setup.setup.sessions c.args.path.now c.in_ok-named.named c.in_ok-journal.journal _ _
    c.run_over-ended.result (ap (λ (s : PlainSetup). s.sessions) c.in_ok-setup.ensures.set_up) c.in_ok-journal.ensures.journal
    c.run_over-ended.ensures.printed))

pub returns-clause-failed : goal.returns-clause-failed
returns-clause-failed g c =
    taken _ c.args.code c.args.config c.in_ok-steps.steps c.in_ok-stated.stated c.in_ok-steps.was c.in_ok-stated.was
    (rw c.in_file.ensures (unrecovered c.args.path.now c.in_ok-named.named _ _ c.run_over-ended.result c.in_ok-named.ensures c.run_over-ended.ensures.failed))
