use Rattle.run_switch.specs.Records.{recording_of}
use Rattle.run_switch.proofs.Rounds.{on_ok}
use Rattle.run_switch.proofs.reporter.Reporter.write_both.Goals as goal

pub returns : goal.returns
returns g c =
    on_ok c.write_trace.result (λ tells. tells (recording_of g.E.Write.contents c.args.self.now.log) c.in_ok-write.ensures.records) c.write_trace.ensures
