use Rattle.run_input.proofs.Hearings.{came_so_far}
use Rattle.run_switch.proofs.InTurn.{alone_answered, halts_alone, halts_unheard}
use Rattle.run_switch.proofs.Stops.{on_err_of}
use Rattle.run_switch.proofs.alone.answer_alone.Goals as goal

pub returns-in-Ok-clause-answered : goal.returns-in-Ok-clause-answered
returns-in-Ok-clause-answered g c =
    alone_answered _ _ _ _ _ _ _ _ _ _ _ _ c.in_ok-next.ensures.request c.in_ok-next.ensures.came
    (rw c.deref.ensures.value at c.in-Ok.ensures.answered) c.show_since.ensures.tells

pub returns-in_err-next-clause-halts : goal.returns-in_err-next-clause-halts
returns-in_err-next-clause-halts g c =
    on_err_of c.from_residual.result (halts_unheard g.B.Input.header _ g.B.Input.input _ _ _
    (came_so_far g.B.Input.header g.B.Input.input _ c.has_come.ensures))

pub returns-clause-halts : goal.returns-clause-halts
returns-clause-halts g c =
    halts_alone g.B.Input.header _ g.B.Input.input _ _ _ _ _ _ _ (came_so_far g.B.Input.header g.B.Input.input _ c.has_come-2.ensures)
    c.in_ok-next.ensures.request c.in_ok-next.ensures.came (rw c.deref.ensures.value at c.in-Err.ensures.halts)
