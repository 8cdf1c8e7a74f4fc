use Rattle.run_switch.proofs.PassingOver.{passes_one}
use Rattle.run_switch.proofs.Rounds.{on_ok}
use Rattle.run_switch.proofs.Stops.{halts_none, halts_returned, on_err, on_err_of}
use Rattle.run_switch.proofs.passing.pass_one.Goals as goal

pub returns-clause-passes : goal.returns-clause-passes
returns-clause-passes g c =
    on_ok c.give_back.result (λ gives. passes_one _ gives.0 _ _ _ _ (rw c.deref.ensures.value at gives.1) gives.2 c.in_ok-pass_over.ensures) c.give_back.ensures.gives

pub returns-clause-halts : goal.returns-clause-halts
returns-clause-halts g c =
    on_err c.give_back.result (λ stops. λ p. halts_returned _ p stops.0 _ _ (rw c.deref.ensures.value at stops.1) stops.2) c.give_back.ensures.stops

pub returns-in_err-pass_over-clause-halts : goal.returns-in_err-pass_over-clause-halts
returns-in_err-pass_over-clause-halts g c = on_err_of c.from_residual.result (λ p. halts_none _ p _)
