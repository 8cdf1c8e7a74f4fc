use Rattle.cli_step.proofs.HeadLines.{three_ok, unopened_head}
use Rattle.cli_step.proofs.opening.answer_or_open.Goals as goal

pub returns-clause-answered : goal.returns-clause-answered
returns-clause-answered g c =
    let file = c.args.stage.now.file in
    let settings = c.args.settings.now.items in
    let out = g.W.Write.contents c.args.out.now in
    let err = g.E.Write.contents c.args.err.now in
    let same = c.in_ok-answer_head.ensures.stays c.if-not-branch.false in
    let is = c.in_ok-answer_head.ensures.opens c.if-not-branch.false in
    three_ok c.open_or_report.result (λ ended refused told stays none.
    let unopened = rw (c.as_slice.ensures.value, same.0) at (refused none) in
    let reported = rw same.2 at (told none) in
    rw ((stays none).1, same.0, same.1) (unopened_head file c.args.line.now settings out err _ is unopened reported))
    c.open_or_report.ensures.refused c.open_or_report.ensures.reported c.open_or_report.ensures.stays
