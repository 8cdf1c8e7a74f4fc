use Rattle.std.proofs.Common.{◌≡◌, ap, sym, ◌∙◌, None}
use Rattle.sw_base.specs.Refusals.{first_at}
use Rattle.sw_seating.specs.Seating.{names_of, no_station}
use Rattle.sw_seating.proofs.Seats.{none_missing, passed}
use Rattle.sw_seating.proofs.seating.seat.Goals as goal

pub seat_all-requires-clause-suited : goal.seat_all-requires-clause-suited
seat_all-requires-clause-suited g c = none_missing _ 0 c.args.parts.now
    (ap (λ ss. first_at (no_station (names_of ss)) 0 c.args.parts.now) (sym c.as_slice.ensures.value) ∙ passed _ _ c.check_missing.ensures
    c.in_ok-check_missing.was)
