use Rattle.std.proofs.Common.{◌≡◌, ◌∙◌, ℕ, ap, map, sym, take}
use Rattle.std.proofs.Math.Seq.{take-length}
use Rattle.std.proofs.lemmas.Bool.{eqb-true}
use Rattle.std.proofs.lemmas.Map.Iter.{iter_end}
use Rattle.std.specs.Map.Iter.{deref_pair}
use Rattle.sw_context.specs.Pairs.{Pairs}
use Rattle.run_responses.specs.Responses.{above}
use Rattle.run_responses.proofs.Among.{above_among, all_found, map_twice, same_found}
use Rattle.run_responses.proofs.sink.are_given.Goals as goal

-- the loop went over all above the id
went_over : (c : goal.In-None) → map deref_pair c.loop-id.yielded ≡ above c.args.last c.args.ended.now.entries
went_over c =
    let start = c.into_iter-id-iterator.ensures.into_iter_gives ∙ c.range-id-items.ensures.between tt in
    (iter_end deref_pair (above c.args.last c.args.ended.now.entries) c.loop-id.yielded _ _ _ c.next.result start c.loop-id.yielded_by c.in-None.is
    c.next.ensures.steps).0

pub returns : goal.returns
returns c = λ same list ids found.
    let ended = c.args.ended.now.entries in
    let last = c.args.last in
    let whole : take c.loop-id.count c.args.given.now ≡ c.args.given.now =
    ap (λ n. take n c.args.given.now) (eqb-true _ _ same) ∙ take-length c.args.given.now in
    let numbers : map (λ (e : ℕ × Pairs). e.0) (above last ended) ≡ c.args.given.now =
    ap (map (λ (e : ℕ × Pairs). e.0)) (sym (went_over c)) ∙ map_twice _ _ c.loop-id.yielded ∙ c.loop-id.invariant.1 ∙ whole in
    let all = all_found ended (above last ended) c.range-id-items.ensures.ordered (above_among last ended) in
    same_found ended list (above last ended) (ids ∙ sym numbers) found all
