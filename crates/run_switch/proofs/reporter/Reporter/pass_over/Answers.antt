use Rattle.std.proofs.Common.{refl}
use Rattle.run_switch.proofs.Tracing.{passed_lost, passed_told}
use Rattle.run_switch.proofs.reporter.Reporter.pass_over.Goals as goal

pub returns-in-Ok : goal.returns-in-Ok
returns-in-Ok g c = passed_told c.args.number c.as_str.result.now c.as_bytes.result.now _ _ _ _ _ _ _ _ c.saturating_add-self.ensures
    (rw c.as_bytes.ensures.value c.in_ok-line.ensures) c.in-Ok.ensures.written

pub returns : goal.returns
returns g c = passed_lost c.args.number c.as_str.result.now c.as_bytes.result.now _ _ _ _ _ _ _ _ _ c.saturating_add-self.ensures
    (rw c.as_bytes.ensures.value c.in_ok-line.ensures) refl c.write_whole.ensures.beginning
