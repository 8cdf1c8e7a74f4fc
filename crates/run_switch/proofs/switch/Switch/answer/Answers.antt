use Rattle.std.proofs.Common.{[], ◌∷◌}
use Rattle.run_switch.specs.Rounds.{Completed, offering}
use Rattle.run_switch.proofs.Resting.{offered_rest}
use Rattle.run_switch.proofs.Rounds.{on_ok, ready_again, reports_offer, the_completed}
use Rattle.run_switch.proofs.Stops.{halts_none, halts_offer, on_err, on_err_of}
use Rattle.run_switch.proofs.switch.Switch.answer.Goals as goal

pub answer_next-requires : goal.answer_next-requires
answer_next-requires g c = record { rest = offered_rest _ _ _ _ c.requires.ready.rest c.in_ok-act.ensures.does c.in_ok-act.ensures.seated }

pub returns : goal.returns
returns g c = record {
  serves = on_ok c.answer_next.result (λ s. reports_offer c.args.request _ _ _ _ (Completed ∷ []) 0 _ _ _ _ c.requires.ready c.in_ok-act.ensures.does s)
      c.answer_next.ensures.serves;
  halts = on_err c.answer_next.result (λ h. halts_offer c.args.request _ _ _ (Completed ∷ []) _ _ c.requires.ready c.in_ok-act.ensures.does h)
      c.answer_next.ensures.halts;
  ready = on_ok c.answer_next.result (λ s. (let (bytes, lines, done) = the_completed _ _ _ _ s.serves in
      ready_again c.args.request _ _ _ _ bytes lines c.requires.ready c.in_ok-act.ensures.does done)) c.answer_next.ensures.serves;
  live = c.answer_next.ensures.live;
}

pub returns-in_err-act-clause-halts : goal.returns-in_err-act-clause-halts
returns-in_err-act-clause-halts g c = on_err_of c.from_residual.result (halts_none (offering (c.args.request ∷ [])) _ _)
