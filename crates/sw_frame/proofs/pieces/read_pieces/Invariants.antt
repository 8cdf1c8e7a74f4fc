use Rattle.std.proofs.Common.{take}
use Rattle.sw_frame.specs.Stream.{Stream}
use Rattle.sw_frame.specs.Feeds.{messages, joined}
use Rattle.sw_frame.proofs.pieces.read_pieces.Given as goal

abbrev pub invariant-loop-piece : goal.invariant-loop-piece
invariant-loop-piece l = Stream (joined (take l.piece-index l.pieces)) (messages l.reading.messages.items) l.reading.framer
