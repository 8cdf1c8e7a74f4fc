use Rattle.std.proofs.Common.{◌≡◌, take}
use Rattle.sw_frame.specs.Feeds.{messages, joined}
use Rattle.dialect_frame.specs.Stream.{Stream}
use Rattle.dialect_frame.proofs.pieces.read_pieces.Given as goal

abbrev pub invariant-loop-piece : goal.invariant-loop-piece
invariant-loop-piece l = record {
  form : l.reading.framer.form ≡ l.fn.form;
  read : Stream l.fn.form (joined (take l.piece-index l.pieces)) (messages l.reading.messages.items) l.reading.framer.has;
}
