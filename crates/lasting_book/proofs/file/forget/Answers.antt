use Rattle.std.proofs.Common.{◌≡◌, pos, to_z, of_z, to_z-of_z, w64, ap, subst, ◌∙◌, arith}
use Rattle.std.proofs.lemmas.Int.{to_z_pos}
use Rattle.book_store.specs.Changes.{forgotten}
use Rattle.book_store.specs.Kept.{IsCleanBook, book, changed}
use Rattle.lasting_book.proofs.Ties.{not_true}
use Rattle.lasting_book.proofs.file.forget.Goals as goal

pub returns-in-Ok-clause-forgotten : goal.returns-in-Ok-clause-forgotten
returns-in-Ok-clause-forgotten g c =
    let new = book g.S.Store c.forget.new.self in
    let old = book g.S.Store c.args.file.now in
    let day : to_z w64 (of_z w64 c.from.result) ≡ pos c.args.before =
    ap (λ z. to_z w64 (of_z w64 z)) c.from.ensures ∙ to_z_pos w64 c.args.before (omega (arith, c.ranges.before.fits)) in
    let most : to_z w64 (of_z w64 c.args.most) ≡ c.args.most = to_z-of_z c.ranges.most in
    record {
      salt = c.in-Ok.ensures.salt;
      clean = c.in-Ok.ensures.clean;
      fine = not_true c.args.file.now.failed (λ t. let e = (c.in-Ok.ensures.failed t).0 in let i = c.in-Ok.is in absurd cc);
      wrote = subst (λ z. IsCleanBook new → new.tables ≡ changed (forgotten z c.args.most) old.tables) day
          (subst (λ z. IsCleanBook new → new.tables ≡ changed (forgotten (to_z w64 (of_z w64 c.from.result)) z) old.tables) most c.in-Ok.ensures.wrote);
      lasts = c.in-Ok.ensures.kept;
    }
