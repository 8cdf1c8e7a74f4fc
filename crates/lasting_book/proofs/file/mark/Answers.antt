use Rattle.std.proofs.Common.{◌≡◌, w64, subst, arith}
use Rattle.std.proofs.lemmas.Int.{to_z_pos}
use Rattle.book_store.specs.Kept.{IsCleanBook, book, changed}
use Rattle.book_store.specs.Lines.{marked}
use Rattle.lasting_book.proofs.Ties.{not_true}
use Rattle.lasting_book.proofs.file.mark.Goals as goal

pub returns-in-Ok-clause-marked : goal.returns-in-Ok-clause-marked
returns-in-Ok-clause-marked g c =
    let new = book g.S.Store c.mark.new.self in
    let old = book g.S.Store c.args.file.now in
    record {
      salt = c.in-Ok.ensures.salt;
      clean = c.in-Ok.ensures.clean;
      fine = not_true c.args.file.now.failed (λ t. let e = (c.in-Ok.ensures.failed t).0 in let i = c.in-Ok.is in absurd cc);
      wrote = subst (λ z. IsCleanBook new → new.tables ≡ changed (marked z) old.tables) (to_z_pos w64 c.args.id (omega (arith, c.if-id-gt-MAX_ID.false)))
          c.in-Ok.ensures.wrote;
      lasts = c.in-Ok.ensures.kept;
    }
