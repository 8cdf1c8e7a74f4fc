use Rattle.std.proofs.Common.{◌∙◌, sym, inr, take}
use Rattle.cli_decode.proofs.StreamText.{turned, take_short, not_false}
use Rattle.cli_decode.proofs.stream.decode_piece.Goals as goal

pub returns-clause-goes_on : goal.returns-clause-goes_on
returns-clause-goes_on g c =
    let piece = take c.in_ok-count.count c.read_piece.new.buf in
    let short = take_short c.in_ok-count.count c.args.buf.now c.read_piece.new.buf c.requires c.read_piece.auto.buf c.in_ok-count.ensures.bound in
    let q = c.in_ok-print_piece.ensures.printed in (
      λ first start h. turned c.args.style first _ _ start _ _ _ _ _ _ piece q.0 c.in_ok-count.ensures.piece short c.in_ok-count.ensures.counted
          c.read_piece.new.self.bounded q.1 q.2 h,
      λ e. inr (sym c.failed.ensures ∙ not_false _ e),
    )
