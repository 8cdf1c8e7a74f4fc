use Rattle.std.proofs.Common.{arith}
use Rattle.book_store.specs.Kept.{book}
use Rattle.lasting_book.proofs.Ties.{tied_advanced}
use Rattle.lasting_book.proofs.book.LastingBook.advance.Goals as goal

pub invariant_of-self : goal.invariant_of-self
invariant_of-self g c =
    let inside = c.self.inside in
    tied_advanced inside.failed (book g.S.Store inside.file) inside.reach c.max-self-inside.result inside.days.items
    (omega (arith, c.max-self-inside.ensures)) c.self.invariant
