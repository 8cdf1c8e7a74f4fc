use Rattle.std.proofs.Common.{refl}
use Rattle.run_switch.specs.Lines.{lines_in}
use Rattle.run_switch.proofs.Tracing.{lines_lost, lines_told, unwanted}
use Rattle.run_switch.proofs.reporter.Reporter.write_trace.Goals as goal

pub returns-in_default : goal.returns-in_default
returns-in_default g c = unwanted (lines_in c.args.engine.now) _ _ _ _ _ _ c.in_default.is

pub returns-in-Ok : goal.returns-in-Ok
returns-in-Ok g c = lines_told (lines_in c.args.engine.now) c.in-Some.form _ _ _ _ _ _ _ c.in-Some.is c.in-Ok.ensures.lines

pub returns-in-Err-Io : goal.returns-in-Err-Io
returns-in-Err-Io g c = lines_lost (lines_in c.args.engine.now) c.in-Some.form _ _ _ _ _ _ _ _ c.in-Some.is refl
    c.write_lines_as.ensures.beginning
