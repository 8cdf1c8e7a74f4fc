use Rattle.std.proofs.Common.{◌≡◌, map, take}
use Rattle.run_setup.specs.Links.{named_state}
use Rattle.run_setup.specs.Plans.{unasked}
use Rattle.run_setup.proofs.links.unasked.Given as goal

abbrev pub invariant-loop-host : goal.invariant-loop-host
invariant-loop-host l = map named_state l.links.items ≡ map unasked (take l.host-index l.host-items)
