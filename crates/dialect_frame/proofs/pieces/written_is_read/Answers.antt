use Rattle.dialect_frame.proofs.Frames.{written-read}
use Rattle.dialect_frame.proofs.pieces.written_is_read.Goals as goal

pub returns : goal.returns
returns c = λ f text ms ns s a p. written-read f text ms ns s a p
