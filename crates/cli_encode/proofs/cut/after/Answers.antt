use Rattle.cli_encode.proofs.Cuts.{not_front}
use Rattle.cli_encode.proofs.cut.after.Goals as goal

pub returns-else-eq : goal.returns-else-eq
returns-else-eq c rest e = not_front c.args.front.now rest c.args.bytes.now c.split_at.result.0.now _ c.split_at.ensures.front c.eq.ensures c.if-eq.false e
