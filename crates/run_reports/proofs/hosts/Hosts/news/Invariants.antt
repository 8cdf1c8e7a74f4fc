use Rattle.std.proofs.Common.{◌≡◌, map, take, string_bytes}
use Rattle.run_reports.specs.Hosts.{AreNews, names_in}
use Rattle.run_reports.proofs.hosts.Hosts.news.Given as goal

abbrev pub invariant-loop-host : goal.invariant-loop-host
invariant-loop-host l = (map (λ h. h.name) l.host-items ≡ names_in l.fn.self)
    × AreNews (map (λ h. h.name) (take l.host-index l.host-items)) (string_bytes l.text)
