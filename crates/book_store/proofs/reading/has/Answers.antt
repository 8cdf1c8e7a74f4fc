use Rattle.std.proofs.Common.{◌≡◌, Bool, true, false, not, refl, ap, ◌∙◌, to_z-of_z}
use Rattle.std.specs.List.{list_any}
use Rattle.sqlite.specs.Held.{state}
use Rattle.book_store.specs.Lines.{has_id, lines_of}
use Rattle.book_store.proofs.QueryLemmas.{any_shown}
use Rattle.book_store.proofs.reading.has.Goals as goal

twice : (b : Bool) → not (not b) ≡ b
twice true = refl
twice false = refl

pub returns-clause-found : goal.returns-clause-found
returns-clause-found g c clean ready =
    let lines = lines_of (state g.S.Store c.args.conn.now).now.trees in
    ap not (c.is_empty.ensures ∙ any_shown (has_id c.args.id) lines c.as_slice.result.now
    (c.as_slice.ensures.value ∙ (rw (to_z-of_z c.ranges.id) at (c.in_ok-rows.ensures.rows clean ready)))) ∙ twice (list_any (has_id c.args.id) lines)
