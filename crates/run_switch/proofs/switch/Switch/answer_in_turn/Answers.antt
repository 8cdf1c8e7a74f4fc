use Rattle.std.proofs.Common.{None, inl, inr}
use Rattle.std.proofs.KnownBytes.{Keeps-refl}
use Rattle.run_switch.proofs.Runs.{all_served}
use Rattle.run_switch.proofs.Stops.{on_err_of}
use Rattle.run_switch.proofs.switch.Switch.answer_in_turn.Goals as goal

pub returns : goal.returns
returns g c =
    let (frames, read, serves) = c.in_ok-end.ensures.serves in
    let (all, end, tells) = all_served c.args.header _ None frames _ _ _ _ _ _ _ _ _ _ _ _ _ _ c.in_ok-cut_traced.ensures.cuts c.in_ok-cut_traced.ensures.ready serves
    c.in_ok-close.ensures.closes in
    record { stops = tt; serves = (frames, read, serves.rounds, serves.answers, all, end, tells) }

pub returns-in_err-cut_traced-clause-stops : goal.returns-in_err-cut_traced-clause-stops
returns-in_err-cut_traced-clause-stops g c = on_err_of c.from_residual.result (inl (Keeps-refl _))

pub returns-in_err-end-clause-stops : goal.returns-in_err-end-clause-stops
returns-in_err-end-clause-stops g c = on_err_of c.from_residual-in_err-end.result (inr (record {
  begun = _;
  cut = _;
  cuts = c.in_ok-cut_traced.ensures.cuts.cuts;
  ready = c.in_ok-cut_traced.ensures.ready;
  serves = inl c.in_err-end.ensures.stops;
}))

pub returns-in_err-close-clause-stops : goal.returns-in_err-close-clause-stops
returns-in_err-close-clause-stops g c =
    let (frames, read, serves) = c.in_ok-end.ensures.serves in
    on_err_of c.from_residual-in_err-close.result (inr (record {
      begun = _;
      cut = _;
      cuts = c.in_ok-cut_traced.ensures.cuts.cuts;
      ready = c.in_ok-cut_traced.ensures.ready;
      serves = inr (record {
        end = _;
        frames = frames;
        read = read;
        rounds = serves.rounds;
        answers = serves.answers;
        served = _;
        advances =
            serves.advances;
        drains = c.in_err-close.ensures.stops;
      });
    }))
