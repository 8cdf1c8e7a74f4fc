use Rattle.std.proofs.Common.{inr, of_z, to_z, w64}
use Rattle.std.proofs.lemmas.Result.{on_ok_weaker}
use Rattle.lasting_book.proofs.Ties.{tied_lines}
use Rattle.lasting_book.proofs.book.LastingBook.forget_in_file.Goals as goal

pub invariant_of-self : goal.invariant_of-self
invariant_of-self g c =
    let inside = c.self.inside in
    tied_lines g.S.Store inside.file c.forget.new.file inside.failed inside.reach inside.days.items c.forget.result (to_z w64 (of_z w64 c.args.most)) c.self.invariant
    c.forget.ensures.forgotten c.forget.ensures.kept

pub returns-clause-lasts : goal.returns-clause-lasts
returns-clause-lasts g c = on_ok_weaker c.forget.result (λ done. inr done.lasts) c.forget.ensures.forgotten
