use Rattle.std.proofs.Common.{◌≡◌, ◌∙◌, sym, ap, true, int_lt, if◌then◌else◌, arith, rules, to_z-of_z, SFits, w64}
use Rattle.std.proofs.lemmas.Int.{ints}
use Rattle.sqlite.specs.Held.{state}
use Rattle.book_store.specs.Changes.{forgotten, forgotten_of, without_if}
use Rattle.book_store.specs.Lines.{lines_of}
use Rattle.book_store.specs.Queries.{last_id}
use Rattle.book_store.proofs.AlterLemmas.{then_left}
use Rattle.book_store.proofs.changes.forget.Goals as goal

pub returns-clause-crash : goal.returns-clause-crash
returns-clause-crash g c =
    let a = state g.S.Store c.args.conn.now in
    let before = c.args.before in
    let most = c.args.most in
    let day = c.in-Some.day in
    let lines = lines_of a.now.trees in
    let fits : SFits w64 day = search rules in
    let less : int_lt day before ≡ true = grind (arith, ints, c.if-day-before.false) in
    then_left (forgotten before most) a (state g.S.Store c.first_day.new.conn) (state g.S.Store c.forget_of.new.conn)
    (λ ls. without_if day (last_id day most ls) ls) (λ clean book. c.in_ok-day.ensures.same clean book)
    (λ clean book. ap (λ o. forgotten_of before most o lines) (sym (c.in_ok-day.ensures.found clean book) ∙ c.in-Some.is)
    ∙ ap (λ t. if t then without_if day (last_id day most lines) lines else lines) less) c.first_day.ensures.survives
    (rw (to_z-of_z fits, to_z-of_z c.ranges.most) at c.forget_of.ensures.crash)
