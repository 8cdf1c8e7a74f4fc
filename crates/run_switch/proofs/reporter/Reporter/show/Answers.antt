use Rattle.std.proofs.Common.{ap, refl}
use Rattle.std.specs.Prelude.{is_some}
use Rattle.run_switch.proofs.Shown.{not_shown, shown_part, shown_whole}
use Rattle.run_switch.proofs.reporter.Reporter.show.Goals as goal

pub returns-in-Ok-write_whole-clause-shows : goal.returns-in-Ok-write_whole-clause-shows
returns-in-Ok-write_whole-clause-shows g c = shown_whole _ c.milliseconds.result c.deref.result.now _ _ _ _ _ _ _ (ap is_some c.in-Some.is)
    (rw c.deref.ensures.value c.in-Ok.ensures) c.in-Ok-write_whole.ensures.written

pub returns-clause-shows : goal.returns-clause-shows
returns-clause-shows g c = shown_part _ c.milliseconds.result c.deref.result.now _ _ _ _ _ _ _ _ (ap is_some c.in-Some.is) refl
    (rw c.deref.ensures.value c.in-Ok.ensures) c.in-Err.ensures.beginning

pub returns-in_default-clause-shows : goal.returns-in_default-clause-shows
returns-in_default-clause-shows g c = not_shown _ _ _ _ _ _ _ (ap is_some c.in_default.is)
