use Rattle.sw_frame.proofs.Frames.{same-stream}
use Rattle.sw_frame.proofs.pieces.one_stream.Goals as goal

pub returns : goal.returns
returns c = λ bytes fs gs s t p q. same-stream bytes fs gs s t p q
