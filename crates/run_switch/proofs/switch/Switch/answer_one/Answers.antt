use Rattle.run_switch.proofs.InTurn.{halts_later, halts_one, halts_passing, in_turn}
use Rattle.run_switch.proofs.Rounds.{on_ok}
use Rattle.run_switch.proofs.Stops.{drains_all, on_err_of}
use Rattle.run_switch.proofs.switch.Switch.answer_one.Goals as goal

pub returns-clause-answered : goal.returns-clause-answered
returns-clause-answered g c =
    on_ok c.cut_traced.result (λ cuts. in_turn _ _ _ _ _ _ _ _ _ _ _ _ _ _ _ c.in_ok-pass_over.ensures.passes c.in_ok-answer_if_any.ensures.serves
    c.in_ok-drain.ensures.drains cuts) c.cut_traced.ensures.cuts

pub returns-clause-halts : goal.returns-clause-halts
returns-clause-halts g c =
    on_err_of c.cut_traced.result (halts_later _ _ _ _ _ _ _ _ _ _ c.in_ok-pass_over.ensures.passes c.in_ok-answer_if_any.ensures.serves.serves
    (drains_all _ _ _ _ c.in_ok-drain.ensures.drains.drains))

pub returns-in_err-pass_over-clause-halts : goal.returns-in_err-pass_over-clause-halts
returns-in_err-pass_over-clause-halts g c = on_err_of c.from_residual.result (halts_passing _ _ _ _ _ (c.in_err-pass_over.ensures.halts _))

pub returns-in_err-answer_if_any-clause-halts : goal.returns-in_err-answer_if_any-clause-halts
returns-in_err-answer_if_any-clause-halts g c =
    on_err_of c.from_residual-in_err-answer_if_any.result (halts_one _ _ _ _ _ _ _ _ c.in_ok-pass_over.ensures.passes
    c.in_err-answer_if_any.ensures.halts)

pub returns-in_err-drain-clause-halts : goal.returns-in_err-drain-clause-halts
returns-in_err-drain-clause-halts g c =
    on_err_of c.from_residual-in_err-drain.result (halts_later _ _ _ _ _ _ _ _ _ _ c.in_ok-pass_over.ensures.passes
    c.in_ok-answer_if_any.ensures.serves.serves c.in_err-drain.ensures.stops)
