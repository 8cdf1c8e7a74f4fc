use Rattle.std.proofs.Common.{◌≡◌}
use Rattle.tx_engine.specs.Calls.{reply_refusal}
use Rattle.tx_engine.specs.Replies.{kind_of}
use Rattle.tx_engine.specs.World.{Recorded}
use Rattle.tx_plant.specs.Steps.{event_of}
use Rattle.tx_plant.proofs.Serving.{accepted_by}
use Rattle.tx_plant.proofs.enter.enter_seated.Goals as goal

pub returns-in-Ok-record-clause-recorded : goal.returns-in-Ok-record-clause-recorded
returns-in-Ok-record-clause-recorded c = (accepted_by (reply_refusal (kind_of c.args.reply.now) c.args.engine.now c.args.s) c.in-Ok-record.number
    (λ n. Recorded c.args.engine.now (event_of c.args.s c.args.reply.now c.args.seat.context) n c.record.new.engine) (c.record.new.engine ≡ c.args.engine.now)
    c.in-Ok-record.ensures).1
