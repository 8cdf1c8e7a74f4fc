use Rattle.std.proofs.Common.{◌≡◌, drop}
use Rattle.flow_load.specs.Image.{has_recovering}
use Rattle.flow_load.proofs.print.version_of.Given as goal

abbrev pub invariant-loop-part : goal.invariant-loop-part
invariant-loop-part l = has_recovering (drop l.part-index l.parts) ≡ has_recovering l.parts
