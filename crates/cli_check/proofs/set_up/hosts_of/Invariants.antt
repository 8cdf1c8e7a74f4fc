use Rattle.std.proofs.Common.{◌≡◌, map, take}
use Rattle.cli_check.specs.SetUps.{host_of}
use Rattle.cli_check.proofs.set_up.hosts_of.Given as goal

abbrev pub invariant-loop-host : goal.invariant-loop-host
invariant-loop-host l = l.hosts.items ≡ map host_of (take l.host-index l.host-items)
