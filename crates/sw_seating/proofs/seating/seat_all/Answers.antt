use Rattle.std.proofs.Common.{ap, sym, ◌∙◌}
use Rattle.std.specs.Str.{bytes_eq}
use Rattle.std.proofs.lemmas.List.Sorted.{IsPermutation-map, IsPermutation-trans, list_any-IsPermutation}
use Rattle.sw_participant.specs.Stations.{name_of}
use Rattle.sw_seating.proofs.seating.seat_all.Goals as goal

pub loop-k-preserved : goal.loop-k-preserved
loop-k-preserved g c = (
  IsPermutation-trans _ _ _ c.loop-k.invariant.0 c.seat_one.ensures.same,
  λ k p low. sym (list_any-IsPermutation (λ n. bytes_eq n _) _ _ (IsPermutation-map name_of _ _ c.seat_one.ensures.same)) ∙ c.loop-k.invariant.1 k p low,
  c.seat_one.ensures.seated,
)
