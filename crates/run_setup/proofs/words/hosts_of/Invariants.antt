use Rattle.std.proofs.Common.{◌≡◌, take, filter_map}
use Rattle.run_reports.specs.Hosts.{names_in}
use Rattle.run_setup.specs.Words.{host_name}
use Rattle.run_setup.proofs.words.hosts_of.Given as goal

abbrev pub invariant-loop-link : goal.invariant-loop-link
invariant-loop-link l = names_in l.hosts ≡ filter_map host_name (take l.link-index l.links)
