use Rattle.std.proofs.Common.{◌∙◌, ap, string_bytes}
use Rattle.sw_wire.specs.HostLine.{host_line}
use Rattle.run_reports.proofs.LinesOfHosts.{next_line}
use Rattle.run_reports.proofs.hosts.Hosts.counts.Goals as goal

pub loop-host-preserved : goal.loop-host-preserved
loop-host-preserved c = next_line c.as_slice-host-items.result.now c.loop-host.host-index c.host-item.result (string_bytes c.loop-host.lines)
    c.as_str-in-loop-host.result.now _ c.counts.result c.loop-host-test.true c.host-item.is
    (c.as_str-in-loop-host.ensures.value ∙ c.in_ok-line.ensures ∙ ap (λ name. host_line name c.counts.result) c.as_str.ensures)
    c.in_ok-push_str.ensures.bytes c.loop-host.invariant
