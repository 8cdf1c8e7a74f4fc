use Rattle.run_input.proofs.Hearings.{came_so_far}
use Rattle.run_switch.proofs.LegRounds.{halts_after, halts_led, leg_answered, together_rests}
use Rattle.run_switch.proofs.Stops.{on_err_of}
use Rattle.run_switch.proofs.leg.answer_leg.Goals as goal

pub finish_leg-requires : goal.finish_leg-requires
finish_leg-requires g c = together_rests _ _ _ c.requires.ready.rest c.in_ok-led.ensures.led.together

pub returns-in-Ok-clause-answered : goal.returns-in-Ok-clause-answered
returns-in-Ok-clause-answered g c =
    leg_answered _ _ _ _ _ _ _ _ _ _ _ _ _ _ c.requires.ready c.begin.ensures c.in_ok-led.ensures.led c.in_ok-led.ensures.came
    (rw c.deref.ensures.value at c.in-Ok.ensures.finishes) c.show_since.ensures.tells

pub returns-in_err-led-clause-halts : goal.returns-in_err-led-clause-halts
returns-in_err-led-clause-halts g c =
    on_err_of c.from_residual.result (halts_led g.B.Input.header _ g.B.Input.input _ _ _ _ (came_so_far g.B.Input.header g.B.Input.input _ c.has_come.ensures) c.in_err-led.ensures.some)

pub returns-clause-halts : goal.returns-clause-halts
returns-clause-halts g c =
    halts_after g.B.Input.header _ g.B.Input.input _ _ _ _ _ _ _ _ c.requires.ready c.in_ok-led.ensures.led c.in_ok-led.ensures.came
    (came_so_far g.B.Input.header g.B.Input.input _ c.has_come-2.ensures) (rw c.deref.ensures.value at c.in-Err.ensures.halts)
