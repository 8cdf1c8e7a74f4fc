use Rattle.std.proofs.Common.{ap, arith, length}
use Rattle.std.proofs.lemmas.Result.{err_from_is_err_and}
use Rattle.cli_script.proofs.Heads.{fewer, head_more, setting_refused}
use Rattle.cli_script.proofs.script.read_head.Goals as goal

pub loop-settings-preserved : goal.loop-settings-preserved
loop-settings-preserved c =
    let loop = c.loop-settings in
    let next = rw c.in-Some.is at c.in_ok-setting.ensures in
    let more = head_more c.args.has_file c.args.script.now loop.rest.now loop.settings c.add.new.self loop.lines c.in-Some.setting
    loop.invariant.read next.0 next.1 c.in_ok-add.ensures in
    record {
      read = rw next.2 more;
      few = omega (arith, ap length next.2, fewer loop.rest.now next.0.0, loop.invariant.few);
    }

pub returns-in_err-add-clause-refused : goal.returns-in_err-add-clause-refused
returns-in_err-add-clause-refused c =
    let loop = c.loop-settings in
    let next = rw c.in-Some.is at c.in_ok-setting.ensures in
    let error = err_from_is_err_and c.from_residual-in_err-add.result c.from_residual-in_err-add.ensures.1 in
    rw (error.1, error.2) (setting_refused c.args.has_file c.args.script.now loop.rest.now loop.settings loop.lines c.in-Some.setting loop.invariant.read
    next.0)
