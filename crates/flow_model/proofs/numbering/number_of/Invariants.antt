use Rattle.std.proofs.Common.{◌≡◌, ◌+◌, drop}
use Rattle.flow_model.specs.Places.{number_in}
use Rattle.flow_model.proofs.numbering.number_of.Given as goal

abbrev pub invariant-loop-number : goal.invariant-loop-number
invariant-loop-number l = l.number + number_in (drop l.number l.parts) l.name ≡ number_in l.parts l.name
