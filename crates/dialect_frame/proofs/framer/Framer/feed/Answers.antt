use Rattle.dialect_frame.proofs.Frames.{so-far}
use Rattle.dialect_frame.proofs.framer.Framer.feed.Goals as goal

pub returns-clause-so_far : goal.returns-clause-so_far
returns-clause-so_far c =
    λ before ms p. so-far c.args.self.now.form before ms c.args.piece.now c.advance.result c.args.self.now.has c.advance.new.self.has p c.advance.ensures.0
