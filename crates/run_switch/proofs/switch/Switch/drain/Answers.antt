use Rattle.std.proofs.Common.{[], ◌∷◌, arith, rules}
use Rattle.std.proofs.lemmas.Grind.{common_steps}
use Rattle.run_switch.specs.Rounds.{Completed, Released}
use Rattle.run_switch.proofs.Resting.{released_rest}
use Rattle.run_switch.proofs.Rounds.{drained, empties_none, empties_then, reports_release}
use Rattle.run_switch.proofs.Stops.{drains_next, drains_none, on_err_of}
use Rattle.run_switch.proofs.switch.Switch.drain.Goals as goal

pub loop-init : goal.loop-init
loop-init g c = empties_none _ _ _ c.requires.rest

pub loop-preserved-then-queued-gt0 : goal.loop-preserved-then-queued-gt0
loop-preserved-then-queued-gt0 g c = empties_then _ _ _ _ _ _ _ _ _ (Completed ∷ []) c.loop.invariant (tt, tt) c.in_ok-answer_next.ensures.serves
    c.in_ok-answer_next.ensures.rest

pub loop-preserved : goal.loop-preserved
loop-preserved g c = empties_then _ _ _ _ _ _ _ _ _ (Released ∷ []) c.loop.invariant (tt, tt) (reports_release _ _ _ _ _ c.in_ok-act.ensures.does)
    (released_rest _ _ _ c.loop.invariant.rest c.in_ok-act.ensures.does c.in_ok-act.ensures.seated)

pub returns-in_err-answer_next-clause-stops : goal.returns-in_err-answer_next-clause-stops
returns-in_err-answer_next-clause-stops g c = on_err_of c.from_residual.result (drains_next _ _ _ _ _ _ _ c.loop.invariant c.in_err-answer_next.ensures.halts)

pub returns-in_err-act-clause-stops : goal.returns-in_err-act-clause-stops
returns-in_err-act-clause-stops g c = on_err_of c.from_residual-in_err-act.result (drains_none _ _ _ _ _ _ c.loop.invariant)

pub returns-clause-stops : goal.returns-clause-stops
returns-clause-stops g c = drains_none _ _ _ _ _ _ c.loop.invariant

pub returns-then-shelved-eq0-clause-drains : goal.returns-then-shelved-eq0-clause-drains
returns-then-shelved-eq0-clause-drains g c = drained _ _ _ _ _ _ c.loop.invariant (first_of (search rules, grind (arith, common_steps)))
