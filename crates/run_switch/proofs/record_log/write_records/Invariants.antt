use Rattle.std.proofs.Common.{◌≡◌}
use Rattle.run_switch.specs.Records.{AddsRecords}
use Rattle.run_switch.proofs.Recording.{first_records}
use Rattle.tx_history.specs.Journal.{entries}
use Rattle.run_switch.proofs.record_log.write_records.Given as goal

abbrev pub invariant-loop-number : goal.invariant-loop-number
invariant-loop-number g l = record {
  history : l.history ≡ entries l.engine.flow l.engine.start l.engine.past;
  retries : l.retries ≡ l.engine.flow.retries;
  written : AddsRecords (first_records l.engine.flow l.engine.start l.engine.past l.number) (g.W.Write.contents l.fn.out) (g.W.Write.contents l.out);
}
