use Rattle.std.proofs.Common.{ap, ◌∙◌, arith}
use Rattle.book_store.specs.Kept.{IsCleanBook, Tables, book, changed}
use Rattle.book_store.specs.Lines.{Line, with_line}
use Rattle.lasting_book.specs.Tied.{line_at}
use Rattle.lasting_book.proofs.Ties.{not_true}
use Rattle.lasting_book.proofs.file.put.Goals as goal

pub returns-in-Ok-clause-put : goal.returns-in-Ok-clause-put
returns-in-Ok-clause-put g c =
    let new = book g.S.Store c.put.new.self in
    let mid = book g.S.Store c.has.new.self in
    record {
      salt = c.in-Ok.ensures.salt ∙ c.in-Ok-false.ensures.salt;
      clean = omega (arith, c.in-Ok.ensures.clean, c.in-Ok-false.ensures.clean);
      fine = not_true c.args.file.now.failed (λ t. let e = (c.in-Ok-false.ensures.failed t).0 in let i = c.in-Ok-false.is in absurd cc);
      wrote = λ clean.
          let early : IsCleanBook mid = omega (arith, c.in-Ok.ensures.clean, clean) in
          c.in-Ok.ensures.wrote clean ∙ ap (λ (l : Line). changed (with_line l) mid.tables) c.item_for.ensures
          ∙ ap (λ (t : Tables). changed (with_line (line_at (c.args.id, c.args.item.now))) t) (c.in-Ok-false.ensures.same early c.in-Ok-false.ensures.ok);
      lasts = c.in-Ok.ensures.kept;
    }
