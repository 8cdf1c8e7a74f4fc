use Rattle.cardswitch.proofs.Serving.{served}
use Rattle.cardswitch.proofs.requests.run_over.Goals as goal

pub returns-clause-served : goal.returns-clause-served
returns-clause-served g c = served c.args.setup.header c.args.setup.threads c.args.code.now c.args.setup.sessions _ _ _ g.R.Read.remaining _ _ _ _ _ c.in_ok-ended.field-0
    c.args.input c.in_ok-check_end.ensures c.in_ok-ended.ensures.ran
