use Rattle.std.proofs.Common.{subst}
use Rattle.std.specs.Io.KnownBytes.{Appends}
use Rattle.cli_decode.specs.Steps.{DecodesPiece}
use Rattle.cli_decode.proofs.stream.print_piece.Goals as goal

pub returns-clause-printed : goal.returns-clause-printed
returns-clause-printed g c = (
  c.piece.new.text.items,
  subst (λ ys. DecodesPiece c.args.style c.args.decoder.now c.args.piece.now c.piece.new.self ys c.piece.new.text.items) c.in_ok-text.ensures.items
      c.in_ok-piece.ensures,
  subst (Appends (g.W.Write.contents c.args.out.now) (g.W.Write.contents c.write_text.new.out)) c.as_slice.ensures.value c.in_ok-write_text.ensures.written,
)
