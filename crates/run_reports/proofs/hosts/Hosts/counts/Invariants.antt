use Rattle.std.proofs.Common.{map, take, string_bytes}
use Rattle.run_reports.specs.Hosts.{AreHostLines}
use Rattle.run_reports.proofs.hosts.Hosts.counts.Given as goal

abbrev pub invariant-loop-host : goal.invariant-loop-host
invariant-loop-host l = AreHostLines (map (λ h. h.name) (take l.host-index l.host-items)) (string_bytes l.lines)
