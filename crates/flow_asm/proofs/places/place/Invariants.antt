use Rattle.std.proofs.Common.{◌≤◌, drop}
use Rattle.flow_asm.specs.Steps.{stages}
use Rattle.flow_asm.proofs.StepPlaces.{Counted}
use Rattle.flow_asm.proofs.places.place.Given as goal

abbrev pub invariant-loop-number : goal.invariant-loop-number
invariant-loop-number l = record {
  counted : Counted l.code l.number l.group l.next (drop l.number (stages l.code));
  group : l.group ≤ l.number;
  next : l.next ≤ l.number;
  step : l.number ≤ l.step;
}
