use Rattle.std.proofs.Common.{inr}
use Rattle.book_store.specs.Kept.{book}
use Rattle.book_store.specs.Lines.{with_line}
use Rattle.lasting_book.specs.Tied.{line_at}
use Rattle.lasting_book.proofs.Ties.{tied_items, tied_changed, tied_put, tied_restored}
use Rattle.lasting_book.proofs.book.LastingBook.restore.Goals as goal

pub invariant_of-self : goal.invariant_of-self
invariant_of-self g c =
    let inside = c.self.inside in
    tied_items inside.failed (book g.S.Store inside.file) inside.reach inside.days.items c.restore.new.self.items c.self.invariant
    (tied_restored inside.reach inside.days c.restore.new.self c.args.id c.args.item c.restore.result c.restore.ensures.put c.restore.ensures.taken
    c.restore.ensures.kept c.if-item-self.true)

pub invariant_of-self-in-Ok-restore : goal.invariant_of-self-in-Ok-restore
invariant_of-self-in-Ok-restore g c =
    let inside = c.self.inside in
    let v = c.args.item in
    tied_changed g.S.Store inside.file c.put.new.file inside.failed inside.reach inside.days.items c.self.invariant (with_line (line_at (c.args.id, v)))
    c.restore-2.new.self.items c.in-Ok-put.ensures.put
    (λ clean tied. tied_put inside.reach inside.days c.restore-2.new.self c.args.id v (book g.S.Store inside.file).tables.lines c.in-Ok-restore.ensures.put
    c.in-Ok-restore.ensures.taken c.requires.closed c.if-item-self.false c.len-rising.ensures.rising (c.in-Ok-put.ensures.free clean) tied)

pub returns-in-Ok-restore-clause-lasts : goal.returns-in-Ok-restore-clause-lasts
returns-in-Ok-restore-clause-lasts g c = inr c.in-Ok-put.ensures.put.lasts
