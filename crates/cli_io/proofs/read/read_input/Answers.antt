use Rattle.cli_io.proofs.KnownBytes.{all_read}
use Rattle.cli_io.proofs.read.read_input.Goals as goal

pub returns-then-count-eq0-clause-bytes : goal.returns-then-count-eq0-clause-bytes
returns-then-count-eq0-clause-bytes g c = all_read _ _ _ c.loop-bytes.bytes.items _ c.in_ok-count.count c.loop-bytes.invariant.taken
    c.in_ok-count.ensures.piece c.if-count-eq0.true c.in_ok-count.ensures.end
