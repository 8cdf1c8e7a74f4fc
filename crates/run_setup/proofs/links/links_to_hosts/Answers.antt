use Rattle.std.proofs.lemmas.Result.{err_from_is_err_and}
use Rattle.run_setup.proofs.Hosts.{host_refused, link_more, links_of_all}
use Rattle.run_setup.proofs.links.links_to_hosts.Goals as goal

pub loop-host-preserved : goal.loop-host-preserved
loop-host-preserved g c = link_more c.as_slice-host-items.result.now c.loop-host.host-index c.host-item.result c.loop-host.links c.add.new.self
    c.loop-host-test.true c.host-item.is c.loop-host.invariant c.in_ok-add.ensures

pub returns-clause-links : goal.returns-clause-links
returns-clause-links g c = links_of_all c.args.config.now c.in-Some.hosts c.as_slice-host-items.result.now c.loop-host.host-index c.loop-host.links c.in-Some.is
    c.as_slice-host-items.ensures c.loop-host-test.false c.loop-host.invariant

pub returns-in_err-side-clause-refused : goal.returns-in_err-side-clause-refused
returns-in_err-side-clause-refused g c =
    let error = err_from_is_err_and c.from_residual-in_err-side.result c.from_residual-in_err-side.ensures.1 in
    rw (error.1, error.2) (host_refused c.args.config.now c.in-Some.hosts c.as_slice-host-items.result.now c.loop-host.host-index c.host-item.result
    c.in_err-side.field-0.0 c.in-Some.is c.as_slice-host-items.ensures c.loop-host-test.true c.host-item.is c.in_err-side.ensures.refused)
