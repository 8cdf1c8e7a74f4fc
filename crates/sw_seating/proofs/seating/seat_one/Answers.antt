use Rattle.std.proofs.Common.{◌≡◌, ◌<◌, ◌∙◌, sym, ap, subst, arith, drop, get_or, length, false, []}
use Rattle.std.proofs.lemmas.List.Sorted.{IsPermutation-swap}
use Rattle.sw_participant.specs.Stations.{name_of}
use Rattle.sw_seating.specs.Seating.{is_among, names_of}
use Rattle.sw_seating.proofs.Seats.{not_after, seated_more}
use Rattle.sw_seating.proofs.seating.seat_one.Goals as goal

pub unreachable-requires : goal.unreachable-requires
unreachable-requires g c =
    not_after _ c.args.parts.now c.args.k c.index-parts-k.result c.requires.numbered c.requires.below c.requires.suited c.requires.seated
    (ap (λ n. is_among n (drop c.args.k (names_of c.args.stations.now.items))) (sym c.as_str.ensures)
    ∙ ap (λ ss. is_among c.as_str.result.now (drop c.args.k (names_of ss))) (sym c.as_slice.ensures.value) ∙ c.in-None.ensures.none)

pub returns-clause-same : goal.returns-clause-same
returns-clause-same g c =
    let there = subst (λ ss. c.in-Some.at < length ss) c.as_slice.ensures.value c.in-Some.ensures.there in
    IsPermutation-swap _ _ c.args.k c.in-Some.at (omega (arith, c.in-Some.ensures.found, there)) there c.swap.ensures.items

pub returns-clause-seated : goal.returns-clause-seated
returns-clause-seated g c =
    let there = subst (λ ss. c.in-Some.at < length ss) c.as_slice.ensures.value c.in-Some.ensures.there in
    seated_more name_of c.args.stations.now.items c.swap.new.self.items c.args.parts.now c.args.k c.in-Some.at c.index-parts-k.result c.swap.ensures.items
    c.in-Some.ensures.found there c.requires.below
    (ap (λ ss. get_or (names_of ss) c.in-Some.at []) (sym c.as_slice.ensures.value) ∙ c.in-Some.ensures.named ∙ c.as_str.ensures) c.requires.seated
