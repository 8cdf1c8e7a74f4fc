use Rattle.dialect_frame.proofs.Frames.{same-stream}
use Rattle.dialect_frame.proofs.pieces.one_stream.Goals as goal

pub returns : goal.returns
returns c = λ f bytes ms ns s t p q. same-stream f bytes ms ns s t p q
