use Rattle.std.proofs.lemmas.Result.{err_from_is_err_and}
use Rattle.cli_lines.specs.Lines.{room, to_come}
use Rattle.cli_step.proofs.Joining.{grows_none, grows_then, ran_first, ran_grows, ran_on, ran_whole, stopped_grows}
use Rattle.cli_step.specs.Doing.{point_of}
use Rattle.cli_step.proofs.script.run_rest.Goals as goal

pub loop-line-init : goal.loop-line-init
loop-line-init g c = record {
  follows = c.requires;
  ran = ran_first (to_come g.R.Read.remaining c.args.lines.now) (point_of g.S.Store c.args.plant.now) (g.W.Write.contents c.args.out.now)
      (room c.args.lines.now);
  grown = grows_none (g.W.Write.contents c.args.out.now);
}

pub loop-line-preserved : goal.loop-line-preserved
loop-line-preserved g c =
    let old = c.loop-line in
    let p = point_of g.S.Store c.args.plant.now in
    let w = point_of g.S.Store old.plant in
    let q = point_of g.S.Store c.run_actions.new.plant in
    let before = g.W.Write.contents c.args.out.now in
    let between = g.W.Write.contents old.out in
    let after = g.W.Write.contents c.run_actions.new.out in
    let next = rw c.in-Some.is at c.in_ok-line.ensures.next in
    let some = rw c.in-Some.is at c.in_ok-line.ensures.some in
    let fewer = rw c.in-Some.is at c.in_ok-line.ensures.room in
    let script = c.new-actions.result in
    let here = ran_whole script c.run_actions.new.actions w q between after c.in_ok-run_actions.ensures.ran c.in_ok-run_actions.ensures.all in
    let line = rw (c.new-actions.ensures.rest, c.as_slice.ensures.value) at here in
    record {
      follows = c.in_ok-run_actions.ensures.follows;
      ran = ran_on (to_come g.R.Read.remaining c.args.lines.now) (to_come g.R.Read.remaining old.lines) (to_come g.R.Read.remaining c.next.new.self) p w q
          before between after c.in-Some.line.items (room old.lines) (room c.next.new.self) (room c.args.lines.now) old.invariant.ran next some line fewer;
      grown = grows_then before between after old.invariant.grown
          (ran_grows script c.run_actions.new.actions w q between after c.in_ok-run_actions.ensures.ran);
    }

pub returns-in_err-run_actions-clause-grown : goal.returns-in_err-run_actions-clause-grown
returns-in_err-run_actions-clause-grown g c =
    let old = c.loop-line in
    let w = point_of g.S.Store old.plant in
    let before = g.W.Write.contents c.args.out.now in
    let between = g.W.Write.contents old.out in
    let after = g.W.Write.contents c.run_actions.new.out in
    let error = err_from_is_err_and c.from_residual-in_err-run_actions.result c.from_residual-in_err-run_actions.ensures.1 in
    rw error.1 (grows_then before between after old.invariant.grown
    (stopped_grows c.new-actions.result w between _ after c.in_err-run_actions.ensures.stopped))
