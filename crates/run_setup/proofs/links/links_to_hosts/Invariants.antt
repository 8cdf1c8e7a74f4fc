use Rattle.std.proofs.Common.{map, take}
use Rattle.run_setup.specs.Links.{AreLinksOf, host_link, host_query}
use Rattle.run_setup.proofs.links.links_to_hosts.Given as goal

abbrev pub invariant-loop-host : goal.invariant-loop-host
invariant-loop-host g l = AreLinksOf (map host_query (take l.host-index l.host-items)) (map host_link (take l.host-index l.host-items)) l.links
