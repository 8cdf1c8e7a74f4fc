-- Where a transaction stands, for a debugger.
use Rattle.std.specs.Prelude.{ℕ, Option, option_map}
use Rattle.tx_machine.specs.declared.values.Spot.{Spot}
use Rattle.tx_slots.specs.declared.next.At.{At}
use Rattle.tx_trace.specs.declared.places.Place.{Place}

-- the due call, with its step, group and index if it is an entry's
abbrev pub place_at : At → Place
place_at at = record {
  id = at.id;
  phase = at.phase;
  call = at.call;
  step = option_map (λ (s : Spot). s.step) at.spot;
  group = option_map (λ (s : Spot). s.group) at.spot;
  index = option_map (λ (s : Spot). s.index) at.spot;
}
