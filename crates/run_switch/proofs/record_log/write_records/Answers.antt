use Rattle.std.proofs.Common.{◌∙◌, ap}
use Rattle.flow_model.specs.declared.flow.Flow.{Flow}
use Rattle.run_switch.proofs.Recording.{records_all, records_first, records_more, records_some, history_over}
use Rattle.run_switch.proofs.Stops.{on_err_of}
use Rattle.run_switch.proofs.record_log.write_records.Goals as goal

pub loop-number-init : goal.loop-number-init
loop-number-init g c =
    let w = c.args.engine.now in
    record {
      history = c.history-history.ensures.entries;
      retries = c.retries-retries.ensures.retries ∙ ap (λ (f : Flow). f.retries) c.code.ensures;
      written = records_first w.flow w.start w.past (g.W.Write.contents c.args.out.now);
    }

pub returns-in_err-write_record-clause-begun : goal.returns-in_err-write_record-clause-begun
returns-in_err-write_record-clause-begun g c =
    let w = c.args.engine.now in
    on_err_of c.from_residual.result (records_some w.flow w.start w.past c.history-history.result.now c.retries-retries.result c.loop-number.number
    c.index-history-number.result _ _ _ c.loop-number.invariant.history c.loop-number.invariant.retries c.loop-number-test.true
    c.index-history-number.is c.loop-number.invariant.written c.in_err-write_record.ensures.begun)

pub loop-number-preserved : goal.loop-number-preserved
loop-number-preserved g c =
    let w = c.args.engine.now in
    record {
      history = c.loop-number.invariant.history;
      retries = c.loop-number.invariant.retries;
      written = records_more w.flow w.start w.past c.history-history.result.now c.retries-retries.result c.loop-number.number
          c.index-history-number.result _ _ _ c.loop-number.invariant.history c.loop-number.invariant.retries c.loop-number-test.true
          c.index-history-number.is c.loop-number.invariant.written c.in_ok-write_record.ensures.written;
    }

pub returns-clause-written : goal.returns-clause-written
returns-clause-written g c =
    let w = c.args.engine.now in
    records_all w.flow w.start w.past c.loop-number.number _ _
    (history_over w.flow w.start w.past c.history-history.result.now c.loop-number.number c.loop-number.invariant.history c.loop-number-test.false)
    c.loop-number.invariant.written
