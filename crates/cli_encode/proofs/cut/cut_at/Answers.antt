use Rattle.std.proofs.Common.{arith}
use Rattle.cli_encode.proofs.Cuts.{none_at_all, parts_are}
use Rattle.cli_encode.proofs.cut.cut_at.Goals as goal

pub returns-then-at-bytes : goal.returns-then-at-bytes
returns-then-at-bytes c = none_at_all c.args.mark c.args.bytes.now c.mark_index-at.result c.mark_index-at.ensures.index c.if-at-bytes.true

pub returns : goal.returns
returns c = parts_are c.args.mark c.args.bytes.now c.mark_index-at.result c.mark_index-at.ensures.index
    (omega (arith, c.mark_index-at.ensures.within, c.if-at-bytes.false))
