-- Calls of `drive`, one after the other.
use Rattle.std.proofs.Common.{◌+◌, List, [], ◌∷◌, ◌++◌, sym, ap, subst, ◌∙◌}
use Rattle.std.proofs.Common.{append_assoc}
use Rattle.tx_plant.specs.declared.turn.Turn.{Turn}
use Rattle.tx_plant.specs.declared.turn.Turn.TheVariants as turn
use Rattle.tx_plant.specs.Steps.{Moved}
use Rattle.tx_plant.specs.Plant.{Whole}
use Rattle.tx_seats.specs.Drives.{AllDriven, Drive}

pub all_driven_append : (ds es : List Drive) (m n : List Moved) (p q r : Whole) → AllDriven ds m p q → AllDriven es n q r → AllDriven (ds ++ es) (m ++ n) p r
all_driven_append [] es m n p q r (none, same) h =
    subst (λ (l : List Moved). AllDriven es (l ++ n) p r) (sym none) (subst (λ (z : Whole). AllDriven es n z r) same h)
all_driven_append (d ∷ ds) es m n p q r (w, first, later, driven, more, all) h =
    (w, first, later ++ n, driven, all_driven_append ds es later n w q r more h, ap (λ (l : List Moved). l ++ n) all ∙ append_assoc first later n)
