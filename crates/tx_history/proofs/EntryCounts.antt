-- How many entries a history has.
use Rattle.std.proofs.Common.{◌≡◌, ◌+◌, List, [], ◌∷◌, length, refl, arith, length-append}
use Rattle.flow_model.specs.declared.flow.Flow.{Flow}
use Rattle.tx_history.specs.declared.event.Event.{Event}
use Rattle.tx_history.specs.History.{Start}
use Rattle.tx_history.specs.Journal.{change, entries}

pub entries_length : (f : Flow) (v : Start) (past : List Event) → length (entries f v past) ≡ length past
entries_length f v [] = refl
entries_length f v (e ∷ past) = let h = entries_length f v past in
    omega (arith, h, length-append (entries f v past) (record { number = length past + 1; event = e; change = change f v (e ∷ past) } ∷ []))
