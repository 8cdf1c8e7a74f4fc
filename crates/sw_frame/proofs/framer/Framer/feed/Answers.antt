use Rattle.sw_frame.proofs.Frames.{so-far}
use Rattle.sw_frame.proofs.framer.Framer.feed.Goals as goal

pub returns-clause-so_far : goal.returns-clause-so_far
returns-clause-so_far c = λ before fs p. so-far before fs c.args.piece.now c.advance.result c.args.self.now c.advance.new.self p c.advance.ensures.answer
