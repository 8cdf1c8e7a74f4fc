use Rattle.std.proofs.Common.{refl, []}
use Rattle.sw_frame.specs.Feeds.{messages}
use Rattle.cli_decode.proofs.PieceText.{went, stayed}
use Rattle.cli_decode.proofs.decoder.Decoder.piece.Goals as goal

pub returns-in_ok-refused-in-Ok : goal.returns-in_ok-refused-in-Ok
returns-in_ok-refused-in-Ok c = λ bytes fs h few.
    let w = went c.args.style bytes c.args.piece.now fs c.in-Ok.messages.items c.as_slice-whole.result.now c.args.self.now _ c.args.text.now.items
    c.push_frames.new.text.items c.saturating_add-first.result c.in_ok-refused-in-Ok.refused
    h few (c.in-Ok.ensures.so_far bytes fs h.stream) c.as_slice-whole.ensures.value c.saturating_add-first.ensures c.saturating_add-self.ensures
    c.in_ok-refused-in-Ok.ensures.refused c.either-self.ensures c.in_ok-refused-in-Ok.ensures.text in
    (messages c.in-Ok.messages.items, w.0, w.1)

pub returns-in-Err-BadLength : goal.returns-in-Err-BadLength
returns-in-Err-BadLength c = λ bytes fs h few.
    let w = stayed c.args.style bytes c.args.piece.now fs c.args.self.now _ c.args.text.now.items h
    (rw c.in-Err-BadLength.field-0-is at (c.in-Err-BadLength.ensures.so_far bytes fs h.stream)) refl refl in
    ([], w.0, w.1)
