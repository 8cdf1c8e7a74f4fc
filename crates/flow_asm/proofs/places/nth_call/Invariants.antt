use Rattle.std.proofs.Common.{◌≡◌, drop}
use Rattle.flow_asm.specs.CallSearch.{call_from}
use Rattle.flow_asm.proofs.places.nth_call.Given as goal

abbrev pub invariant-loop-number : goal.invariant-loop-number
invariant-loop-number l = call_from l.number l.left (drop l.number l.steps) ≡ call_from 0 l.index l.steps
