use Rattle.cli_io.specs.Inputs.{unread}
use Rattle.cli_decode.proofs.StreamText.{ended}
use Rattle.cli_decode.proofs.stream.decode_stream.Goals as goal

pub returns-then-not-more-clause-text : goal.returns-then-not-more-clause-text
returns-then-not-more-clause-text g c =
    let t = c.in_ok-more.ensures.goes_on in
    let unread_first = unread g.R.Read.remaining c.args.input.now in
    ended c.args.style unread_first _ (g.W.Write.contents c.args.out.now) _ _ _ c.decode_piece.new.decoder c.in_ok-refused.refused
    (t.0 unread_first (g.W.Write.contents c.args.out.now) c.loop-decoder.invariant.so_far) (t.1 c.if-not-more.true) c.in_ok-refused.ensures.text
    c.in_ok-refused.ensures.refused
