use Rattle.std.proofs.Common.{inr, sym, ap, ◌∙◌}
use Rattle.book_store.specs.Kept.{book}
use Rattle.day_book.specs.Items.{PlainDays}
use Rattle.lasting_book.specs.Tied.{lines_in}
use Rattle.book_store.specs.Lines.{with_line}
use Rattle.day_book.specs.Changes.{in_state}
use Rattle.day_book.specs.declared.item.State.TheVariants.{Used}
use Rattle.lasting_book.specs.Tied.{line_at}
use Rattle.lasting_book.proofs.Ties.{tied_items, tied_changed, tied_settled, tied_used}
use Rattle.lasting_book.proofs.book.LastingBook.settle.Goals as goal

pub invariant_of-self : goal.invariant_of-self
invariant_of-self g c =
    let inside = c.self.inside in
    tied_items inside.failed (book g.S.Store inside.file) inside.reach inside.days.items c.settle.new.self.items c.self.invariant
    (ap (λ (d : PlainDays). lines_in inside.reach d.items) c.settle.ensures.settled
    ∙ tied_settled inside.reach c.args.id c.in-Some.item inside.days.items c.in-Open.is (sym c.in-Some.ensures) c.if-item-self.true)

pub invariant_of-self-in-Ok : goal.invariant_of-self-in-Ok
invariant_of-self-in-Ok g c =
    let inside = c.self.inside in
    let u = c.in-Some.item in
    tied_changed g.S.Store inside.file c.put.new.file inside.failed inside.reach inside.days.items c.self.invariant (with_line (line_at (c.args.id, in_state Used u)))
    c.settle-in-Ok.new.self.items c.in-Ok.ensures.put
    (λ clean tied. tied_used inside.reach c.args.id u inside.days.items (book g.S.Store inside.file).tables.lines c.in-Open.is (sym c.in-Some.ensures)
    c.if-item-self.false c.len-rising.ensures.rising (c.in-Ok.ensures.free clean) tied
    ∙ sym (ap (λ (d : PlainDays). lines_in inside.reach d.items) c.settle-in-Ok.ensures.settled))

pub returns-in-Ok-clause-lasts : goal.returns-in-Ok-clause-lasts
returns-in-Ok-clause-lasts g c = inr c.in-Ok.ensures.put.lasts
