use Rattle.cli_lines.specs.Lines.{room, to_come}
use Rattle.cli_step.proofs.Adding.{both_ok}
use Rattle.cli_step.proofs.Joining.{head_alone, head_ran}
use Rattle.cli_step.proofs.Playing.{all_ok}
use Rattle.cli_step.proofs.script.run_lines.Goals as goal

pub returns-in-Some-clause-ran : goal.returns-in-Some-clause-ran
returns-in-Some-clause-ran g c =
    let opened = rw (c.in-Some.is, c.as_slice.ensures.value) at c.in_ok-script.ensures.opened in
    let head = rw c.is_some.ensures at c.in_ok-head.ensures.head in
    both_ok c.play.result (λ played few.
    head_ran c.args.file (to_come g.R.Read.remaining c.args.lines.now) (to_come g.R.Read.remaining c.read_head.new.lines) c.in_ok-head.head.items
    c.in-Some.script (g.W.Write.contents c.args.out.now) (g.W.Write.contents c.play.new.out) (room c.read_head.new.lines) (room c.args.lines.now)
    head c.in_ok-head.ensures.few c.read_head.ensures.small c.read_head.ensures.small_left opened played few)
    c.play.ensures.played c.play.ensures.few

pub returns-clause-ran : goal.returns-clause-ran
returns-clause-ran g c =
    let opened = rw (c.in-None.is, c.as_slice.ensures.value) at c.in_ok-script.ensures.opened in
    let head = rw c.is_some.ensures at c.in_ok-head.ensures.head in
    all_ok c.flush.result
    (head_alone c.args.file (to_come g.R.Read.remaining c.args.lines.now) (to_come g.R.Read.remaining c.read_head.new.lines) c.in_ok-head.head.items
    (g.W.Write.contents c.args.out.now) (g.W.Write.contents c.flush.new.out) head opened c.flush.ensures.kept)
