use Rattle.book_store.specs.Kept.{book}
use Rattle.lasting_book.proofs.Ties.{tied_items, tied_reserved}
use Rattle.lasting_book.proofs.book.LastingBook.reserve.Goals as goal

pub invariant_of-self : goal.invariant_of-self
invariant_of-self g c =
    let inside = c.self.inside in
    tied_items inside.failed (book g.S.Store inside.file) inside.reach inside.days.items c.reserve.new.self.items c.self.invariant
    (tied_reserved inside.reach inside.days c.reserve.new.self c.args.id c.args.item c.reserve.result c.reserve.ensures.held c.reserve.ensures.taken
    c.reserve.ensures.kept c.requires.open)
