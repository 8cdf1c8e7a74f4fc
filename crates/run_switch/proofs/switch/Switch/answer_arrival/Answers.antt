use Rattle.run_switch.proofs.Shown.{reports_shown}
use Rattle.run_switch.proofs.switch.Switch.answer_arrival.Goals as goal

pub returns-in_ok-answer-in-Request-clause-serves : goal.returns-in_ok-answer-in-Request-clause-serves
returns-in_ok-answer-in-Request-clause-serves g c =
    rw c.in-Request.is (reports_shown _ _ _ _ _ _ _ _ _ c.in_ok-answer-in-Request.ensures.serves c.show_since.ensures.tells)
