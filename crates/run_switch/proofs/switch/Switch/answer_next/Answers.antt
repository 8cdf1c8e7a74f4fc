use Rattle.std.proofs.Common.{[], ◌∷◌}
use Rattle.run_switch.specs.Rounds.{Completed}
use Rattle.run_switch.proofs.Rounds.{completed, live_from, on_both, on_ok, reports_from, rest_given}
use Rattle.run_switch.proofs.Stops.{halts_given, halts_gives, halts_none, on_err_of}
use Rattle.run_switch.proofs.switch.Switch.answer_next.Goals as goal

pub returns : goal.returns
returns g c =
    let (own, transacts) = c.in_ok-run_next.ensures.transacts in
    let (text, framed, appends) = c.in_ok-give.ensures.gives in
    record {
      serves = on_both c.cut_between.result (λ cuts rest. reports_from (Completed ∷ []) 0 _ _ _ _ _ _ _ c.begin.ensures
          (completed own text _ _ _ _ _ _ _ _ c.requires.rest transacts framed c.in_ok-give.ensures.answered cuts rest appends)) c.cut_between.ensures.cuts c.cut_between.ensures.rest;
      halts = on_err_of c.cut_between.result (halts_given own text _ _ _ _ c.requires.rest transacts framed appends);
      rest = c.cut_between.ensures.rest;
      live = on_ok c.cut_between.result (λ live. live_from _ _ c.cut_between.new.self.plant.running.engine c.begin.ensures live) c.cut_between.ensures.live;
    }

pub give-requires : goal.give-requires
give-requires g c =
    let (own, transacts) = c.in_ok-run_next.ensures.transacts in
    record { rests = rest_given _ _ own c.requires.rest transacts c.in_ok-run_next.ensures.seated }

pub returns-in_err-run_next-clause-halts : goal.returns-in_err-run_next-clause-halts
returns-in_err-run_next-clause-halts g c = on_err_of c.from_residual.result (halts_none (Completed ∷ []) _ _)

pub returns-in_err-give-clause-halts : goal.returns-in_err-give-clause-halts
returns-in_err-give-clause-halts g c =
    let (own, transacts) = c.in_ok-run_next.ensures.transacts in
    on_err_of c.from_residual-in_err-give.result (halts_gives own _ _ _ _ c.requires.rest transacts c.in_err-give.ensures.stopped)
