use Rattle.std.proofs.Common.{string_bytes}
use Rattle.cli_step.proofs.Playing.{if_err, line_unwritten}
use Rattle.cli_step.specs.Doing.{point_of}
use Rattle.cli_step.proofs.script.run_line.Goals as goal

pub returns-clause-failed : goal.returns-clause-failed
returns-clause-failed g c =
    let p = point_of g.S.Store c.args.plant.now in
    let q = point_of g.S.Store c.run_action-ran.new.plant in
    let before = g.W.Write.contents c.args.out.now in
    let after = g.W.Write.contents c.put_out.new.out in
    let done = c.run_action-ran in
    if_err c.put_out.result (λ e h.
    line_unwritten c.args.action p q before after (string_bytes c.new-text.result) (string_bytes done.new.text) done.result c.args.line e
    c.new-text.ensures.bytes done.ensures.acts done.ensures.failed h)
    (rw c.as_str.ensures.value at c.put_out.ensures.refused)
