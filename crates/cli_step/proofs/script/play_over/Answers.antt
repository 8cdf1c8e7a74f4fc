use Rattle.cli_step.proofs.Adding.{on_ok, on_err}
use Rattle.cli_step.proofs.Joining.{grows_then, if_some, nothing_grown, ran_grows, ran_whole}
use Rattle.cli_lines.specs.Lines.{to_come}
use Rattle.cli_step.proofs.script.play_over.Goals as goal

pub returns-clause-played : goal.returns-clause-played
returns-clause-played g c =
    let opened = c.in-Ok-new.ensures.opened in
    let first = ran_whole c.args.actions.now c.run_actions.new.actions _ _ _ _ c.in_ok-run_actions.ensures.ran c.in_ok-run_actions.ensures.all in
    on_ok c.run_rest.result (λ all. if_some (to_come g.R.Read.remaining c.args.lines.now) (λ others rest. record {
      start = _;
      begun = record { journal = _; fresh = c.in-Ok.ensures.whole; view = opened.0; opened = opened.1; seated = c.in-Ok-new.ensures.seated };
      between = _;
      written = _;
      first = first;
      end = _;
      rest = rest;
    }) all) c.run_rest.ensures.ran

pub returns-clause-grown : goal.returns-clause-grown
returns-clause-grown g c =
    on_err c.run_rest.result (λ grown. grows_then (g.W.Write.contents c.args.out.now) (g.W.Write.contents c.run_actions.new.out)
    (g.W.Write.contents c.run_rest.new.out) (ran_grows c.args.actions.now c.run_actions.new.actions _ _ _ _ c.in_ok-run_actions.ensures.ran) grown)
    c.run_rest.ensures.grown

pub returns-in_err-plant_refused-in-Err-new-clause-grown : goal.returns-in_err-plant_refused-in-Err-new-clause-grown
returns-in_err-plant_refused-in-Err-new-clause-grown g c = nothing_grown c.from_residual.result (g.W.Write.contents c.args.out.now)
