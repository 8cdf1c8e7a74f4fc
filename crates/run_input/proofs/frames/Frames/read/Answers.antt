use Rattle.std.proofs.Common.{take}
use Rattle.sw_frame.specs.Feeds.{messages}
use Rattle.run_input.proofs.Readings.{reads_piece}
use Rattle.run_input.proofs.frames.Frames.read.Goals as goal

pub returns-clause-reads : goal.returns-clause-reads
returns-clause-reads g c =
    reads_piece (g.R.Read.remaining c.args.input.now) (g.R.Read.remaining c.read.new.self) (take c.in-Ok.count c.read.new.buf)
    (messages c.in_ok-messages.messages.items) c.args.self.now.framer c.feed.new.self.framer c.in-Ok.ensures.bytes.0 c.in_ok-messages.ensures
