use Rattle.std.proofs.Common.{Some, inl, inr}
use Rattle.run_switch.proofs.Runs.{all_served, told_last}
use Rattle.run_switch.proofs.Stops.{drains_all, on_err_of}
use Rattle.run_switch.proofs.switch.Switch.answer_together.Goals as goal

pub answer_stream-requires-clause-ready : goal.answer_stream-requires-clause-ready
answer_stream-requires-clause-ready g c = λ κs within. c.in_ok-cut_traced.ensures.ready

pub returns-clause-serves : goal.returns-clause-serves
returns-clause-serves g c =
    let (frames, read, serves) = c.in_ok-served.ensures.serves in
    let (all, end, tells) = all_served c.args.stream.header _ (Some c.args.stream.order) frames _ _ _ _ _ _ _ _ _ _ _ _ _ _ c.in_ok-cut_traced.ensures.cuts c.in_ok-cut_traced.ensures.ready serves
    c.in_ok-closed.ensures.closes in
    let (whole, last) = told_last _ _ _ _ _ _ _ _ _ _ _ _ _ all end c.engine.ensures tells c.in_ok-traced.ensures.tells c.show.ensures.shows in
    (frames, read, serves.rounds, serves.answers, whole, last)

pub returns-in_err-served-clause-stops : goal.returns-in_err-served-clause-stops
returns-in_err-served-clause-stops g c = on_err_of c.from_residual-in_err-served.result (inr (record {
  begun = _;
  cut = _;
  cuts = c.in_ok-cut_traced.ensures.cuts.cuts;
  ready = c.in_ok-cut_traced.ensures.ready;
  serves = inl c.in_err-served.ensures.stops;
}))

pub returns-in_err-closed-clause-stops : goal.returns-in_err-closed-clause-stops
returns-in_err-closed-clause-stops g c =
    let (frames, read, serves) = c.in_ok-served.ensures.serves in
    on_err_of c.from_residual-in_err-closed.result (inr (record {
      begun = _;
      cut = _;
      cuts = c.in_ok-cut_traced.ensures.cuts.cuts;
      ready = c.in_ok-cut_traced.ensures.ready;
      serves = inr (record {
        end = _;
        frames = frames;
        read = read;
        rounds = serves.rounds;
        answers = serves.answers;
        served = _;
        advances =
            serves.advances;
        drains = c.in_err-closed.ensures.stops;
      });
    }))

pub returns-in_err-traced-clause-stops : goal.returns-in_err-traced-clause-stops
returns-in_err-traced-clause-stops g c =
    let (frames, read, serves) = c.in_ok-served.ensures.serves in
    on_err_of c.from_residual-in_err-traced.result (inr (record {
      begun = _;
      cut = _;
      cuts = c.in_ok-cut_traced.ensures.cuts.cuts;
      ready = c.in_ok-cut_traced.ensures.ready;
      serves = inr (record {
        end = _;
        frames = frames;
        read = read;
        rounds = serves.rounds;
        answers = serves.answers;
        served = _;
        advances =
            serves.advances;
        drains = drains_all _ _ _ _ c.in_ok-closed.ensures.closes.0.drains;
      });
    }))
