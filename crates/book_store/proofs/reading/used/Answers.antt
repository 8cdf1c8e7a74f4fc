use Rattle.std.proofs.Common.{◌∙◌, ap, unwrap_or, pos, rules, to_z-of_z, SFits, w64}
use Rattle.sqlite.specs.Held.{state}
use Rattle.book_store.specs.Lines.{lines_of}
use Rattle.book_store.specs.Queries.{used}
use Rattle.book_store.proofs.QueryLemmas.{first_is}
use Rattle.book_store.proofs.reading.used.Goals as goal

pub returns-clause-found : goal.returns-clause-found
returns-clause-found g c clean ready =
    let lines = lines_of (state g.S.Store c.args.conn.now).now.trees in
    let first = c.first_int.ensures ∙ first_is (used c.args.card.now c.args.day lines) c.as_slice.result.now
    (c.as_slice.ensures.value ∙ (rw (to_z-of_z c.ranges.day) at (c.in_ok-rows.ensures.rows clean ready))) in
    let fits : SFits w64 c.unwrap_or.result = search rules in
    rw (to_z-of_z fits) (c.unwrap_or.ensures ∙ ap (λ o. unwrap_or o (pos 0)) first)
