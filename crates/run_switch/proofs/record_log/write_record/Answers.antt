use Rattle.std.proofs.Common.{◌∙◌, sym}
use Rattle.run_switch.proofs.Recording.{begun_none, begun_record, of_record}
use Rattle.run_switch.proofs.Stops.{on_err_of}
use Rattle.run_switch.proofs.record_log.write_record.Goals as goal

pub returns-in_err-record-clause-begun : goal.returns-in_err-record-clause-begun
returns-in_err-record-clause-begun g c = on_err_of c.from_residual.result (begun_none _ _)

pub returns-in_err-line-clause-begun : goal.returns-in_err-line-clause-begun
returns-in_err-line-clause-begun g c = on_err_of c.from_residual-in_err-line.result (begun_none _ _)

pub returns-in_err-write_whole-clause-begun : goal.returns-in_err-write_whole-clause-begun
returns-in_err-write_whole-clause-begun g c =
    on_err_of c.from_residual-in_err-write_whole.result (begun_record _ c.in-Some.record c.args.times c.deref.result.now _ _
    (sym c.in_ok-record.ensures ∙ c.in-Some.is) (c.deref.ensures.value ∙ c.in_ok-line.ensures) c.in_err-write_whole.ensures.beginning)

pub returns-clause-written : goal.returns-clause-written
returns-clause-written g c =
    of_record _ c.in-Some.record c.args.times c.deref.result.now _ _
    (sym c.in_ok-record.ensures ∙ c.in-Some.is) (c.deref.ensures.value ∙ c.in_ok-line.ensures) c.in_ok-write_whole.ensures.written
