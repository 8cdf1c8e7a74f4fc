use Rattle.cli_decode.proofs.PieceText.{appended}
use Rattle.cli_decode.proofs.decoder.push_cut.Goals as goal

pub returns : goal.returns
returns c =
    appended c.args.text.now.items c.extend_from_slice.new.self.items c.push_number.new.text.items _ _ _ _ c.in_ok-extend_from_slice.ensures.items
    c.in_ok-push_number.ensures c.in_ok-extend_from_slice-2.ensures.items
