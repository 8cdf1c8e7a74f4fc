use Rattle.std.proofs.Common.{◌≡◌, drop}
use Rattle.std.specs.Prelude.{is_some}
use Rattle.tx_history.specs.Keys.{look}
use Rattle.tx_history.proofs.checks.has_id.Given as goal

abbrev pub invariant-loop-waiting : goal.invariant-loop-waiting
invariant-loop-waiting l = is_some (look l.id (drop l.waiting-index l.shelf)) ≡ is_some (look l.id l.shelf)
