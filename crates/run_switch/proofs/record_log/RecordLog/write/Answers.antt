use Rattle.run_switch.specs.Lines.{lines_in}
use Rattle.run_switch.proofs.Recording.{records_whole}
use Rattle.run_switch.proofs.record_log.RecordLog.write.Goals as goal

pub returns-in-Ok-clause-records : goal.returns-in-Ok-clause-records
returns-in-Ok-clause-records g c = records_whole (lines_in c.args.engine.now) _ _ _ _ c.if-not-self.false c.in-Ok.ensures.written
