use Rattle.std.proofs.Common.{◌∙◌, ◌++◌, ap, option_to_list, sym}
use Rattle.run_setup.specs.Words.{host_name}
use Rattle.run_setup.proofs.HostNames.{next_hosts}
use Rattle.run_setup.proofs.words.hosts_of.Goals as goal

pub loop-link-preserved : goal.loop-link-preserved
loop-link-preserved c =
    c.in_ok-add_host.ensures ∙ ap (λ names. names ++ option_to_list (host_name c.link-item.result)) c.loop-link.invariant
    ∙ sym (next_hosts c.args.links.now c.loop-link.link-index c.link-item.result c.loop-link-test.true c.link-item.is)
