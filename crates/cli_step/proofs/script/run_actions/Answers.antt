use Rattle.std.proofs.Common.{◌∙◌}
use Rattle.std.proofs.lemmas.Result.{err_from_is_err_and}
use Rattle.cli_step.proofs.Playing.{all_ok, flush_failed, if_err, line_failed, ran_more, refused_there}
use Rattle.cli_step.specs.Doing.{point_of}
use Rattle.cli_step.proofs.script.run_actions.Goals as goal

pub returns-in_err-action-clause-stopped : goal.returns-in_err-action-clause-stopped
returns-in_err-action-clause-stopped g c =
    let p = point_of g.S.Store c.args.plant.now in
    let w = point_of g.S.Store c.loop-action.plant in
    let before = g.W.Write.contents c.args.out.now in
    let mid = g.W.Write.contents c.loop-action.out in
    let error = err_from_is_err_and c.from_residual.result c.from_residual.ensures.1 in
    rw (error.1, error.2) (refused_there c.args.actions.now c.loop-action.actions c.next.new.self p w before mid c.in_err-action.field-0.0
    c.loop-action.invariant.ran c.in_err-action.ensures.next)

pub loop-action-preserved : goal.loop-action-preserved
loop-action-preserved g c =
    let p = point_of g.S.Store c.args.plant.now in
    let w = point_of g.S.Store c.loop-action.plant in
    let q = point_of g.S.Store c.run_line.new.plant in
    let before = g.W.Write.contents c.args.out.now in
    let mid = g.W.Write.contents c.loop-action.out in
    let after = g.W.Write.contents c.run_line.new.out in
    let next = rw c.in-Some.is at c.in_ok-action.ensures.next in
    let line = c.in_ok-run_line.ensures.ran in
    record {
      follows = c.in_ok-run_line.ensures.follows;
      ran = ran_more c.args.actions.now c.loop-action.actions c.next.new.self c.in-Some.action p w q before mid after line.0 c.loop-action.invariant.ran
          next line.1 line.2;
    }

pub returns-in_err-run_line-clause-stopped : goal.returns-in_err-run_line-clause-stopped
returns-in_err-run_line-clause-stopped g c =
    let p = point_of g.S.Store c.args.plant.now in
    let w = point_of g.S.Store c.loop-action.plant in
    let before = g.W.Write.contents c.args.out.now in
    let mid = g.W.Write.contents c.loop-action.out in
    let after = g.W.Write.contents c.run_line.new.out in
    let next = rw c.in-Some.is at c.in_ok-action.ensures.next in
    let error = err_from_is_err_and c.from_residual-in_err-run_line.result c.from_residual-in_err-run_line.ensures.1 in
    rw (error.1, error.2) (line_failed c.args.actions.now c.loop-action.actions c.next.new.self c.in-Some.action p w before mid after c.lines.result
    c.in_err-run_line.field-0.0 c.loop-action.invariant.ran next (c.lines.ensures ∙ next.2) c.in_err-run_line.ensures.failed)

pub returns-clause-stopped : goal.returns-clause-stopped
returns-clause-stopped g c =
    let p = point_of g.S.Store c.args.plant.now in
    let w = point_of g.S.Store c.loop-action.plant in
    let before = g.W.Write.contents c.args.out.now in
    let mid = g.W.Write.contents c.loop-action.out in
    let after = g.W.Write.contents c.flush.new.out in
    if_err c.flush.result (λ e h. flush_failed c.args.actions.now c.loop-action.actions p w before mid after e c.loop-action.invariant.ran
    c.flush.ensures.kept h)
    c.flush.ensures.refused

pub returns-clause-follows : goal.returns-clause-follows
returns-clause-follows g c = all_ok c.flush.result c.loop-action.invariant.follows
