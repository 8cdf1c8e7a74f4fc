use Rattle.std.proofs.Common.{◌≡◌, drop, None}
use Rattle.tx_history.specs.Checks.{places_rise}
use Rattle.tx_history.proofs.checks.advices_fit.Given as goal

abbrev pub invariant-loop-advice : goal.invariant-loop-advice
invariant-loop-advice l = places_rise l.before l.next_id (drop l.advice-index l.advices) ≡ places_rise None l.next_id l.advices
