use Rattle.run_switch.specs.Points.{all_answered, point_of}
use Rattle.run_switch.proofs.LegRounds.{finished}
use Rattle.run_switch.proofs.PassingOver.{then_at_once, then_drained, then_passing}
use Rattle.run_switch.proofs.Rounds.{on_ok}
use Rattle.run_switch.proofs.Stops.{drains_all, on_err_of}
use Rattle.run_switch.proofs.switch.Switch.finish_leg.Goals as goal

pub returns-clause-finishes : goal.returns-clause-finishes
returns-clause-finishes g c =
    on_ok c.cut_traced.result (λ cuts. finished _ _ _ _ _ _ _ _ _ _ _ _ c.in_ok-pass_over.ensures.passes c.in_ok-note_given.ensures.answered
    c.in_ok-drain.ensures.drains cuts) c.cut_traced.ensures.cuts

pub returns-clause-halts : goal.returns-clause-halts
returns-clause-halts g c =
    on_err_of c.cut_traced.result (then_drained _ (point_of g.S.Store c.args.self.now) _ _ _ _ _ _ c.in_ok-pass_over.ensures.passes
    c.in_ok-note_given.ensures.answered (drains_all _ _ _ _ c.in_ok-drain.ensures.drains.drains))

pub returns-in_err-note_given-clause-halts : goal.returns-in_err-note_given-clause-halts
returns-in_err-note_given-clause-halts g c = on_err_of c.from_residual.result (then_at_once _ (all_answered (point_of g.S.Store c.args.self.now)) _)

pub returns-in_err-pass_over-clause-halts : goal.returns-in_err-pass_over-clause-halts
returns-in_err-pass_over-clause-halts g c =
    on_err_of c.from_residual-in_err-pass_over.result (then_passing _ (all_answered (point_of g.S.Store c.args.self.now)) _ _
    (c.in_err-pass_over.ensures.halts (all_answered (point_of g.S.Store c.args.self.now))))

pub returns-in_err-drain-clause-halts : goal.returns-in_err-drain-clause-halts
returns-in_err-drain-clause-halts g c =
    on_err_of c.from_residual-in_err-drain.result (then_drained _ (point_of g.S.Store c.args.self.now) _ _ _ _ _ _ c.in_ok-pass_over.ensures.passes
    c.in_ok-note_given.ensures.answered c.in_err-drain.ensures.stops)
