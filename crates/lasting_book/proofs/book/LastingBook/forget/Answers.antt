use Rattle.std.proofs.Common.{ap, ◌∙◌}
use Rattle.book_store.specs.Kept.{book}
use Rattle.day_book.specs.Items.{PlainDays}
use Rattle.lasting_book.specs.Tied.{lines_in}
use Rattle.lasting_book.proofs.Ties.{tied_items, tied_forgotten}
use Rattle.lasting_book.proofs.book.LastingBook.forget.Goals as goal

pub invariant_of-self : goal.invariant_of-self
invariant_of-self g c =
    let inside = c.self.inside in
    tied_items inside.failed (book g.S.Store inside.file) inside.reach inside.days.items c.forget.new.self.items c.self.invariant
    (ap (λ (d : PlainDays). lines_in inside.reach d.items) c.forget.ensures.forgotten ∙ tied_forgotten inside.reach inside.days.items)
