use Rattle.std.proofs.Common.{inr, sym, ap, ◌∙◌}
use Rattle.book_store.specs.Kept.{book}
use Rattle.day_book.specs.Items.{PlainDays}
use Rattle.lasting_book.specs.Tied.{lines_in}
use Rattle.std.proofs.Common.{pos}
use Rattle.book_store.specs.Lines.{marked}
use Rattle.lasting_book.proofs.Ties.{tied_changed, tied_reversed}
use Rattle.lasting_book.proofs.book.LastingBook.reverse.Goals as goal

pub invariant_of-self : goal.invariant_of-self
invariant_of-self g c =
    let inside = c.self.inside in
    let u = c.in-Some.item in
    tied_changed g.S.Store inside.file c.mark.new.file inside.failed inside.reach inside.days.items c.self.invariant (marked (pos c.args.id))
    c.reverse.new.self.items c.in-Ok.ensures.marked
    (λ clean tied. tied_reversed inside.reach c.args.id u inside.days.items (book g.S.Store inside.file).tables.lines c.in-Used.is (sym c.in-Some.ensures)
    c.len-rising.ensures.rising tied ∙ sym (ap (λ (d : PlainDays). lines_in inside.reach d.items) c.reverse.ensures.reversed))

pub returns-in-Ok-clause-lasts : goal.returns-in-Ok-clause-lasts
returns-in-Ok-clause-lasts g c = inr c.in-Ok.ensures.marked.lasts
