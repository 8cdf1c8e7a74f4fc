use Rattle.sw_rules.proofs.NoBreach.{none_found}
use Rattle.sw_rules.specs.Named.{finding_of, plain}
use Rattle.sw_rules.proofs.finding.findings.Goals as goal

pub returns-clause-checked : goal.returns-clause-checked
returns-clause-checked c = λ none. c.in_ok-broken.ensures.checked
    (none_found plain (finding_of c.args.flow.now c.args.set_up.now) c.loop-breach.found.items c.as_slice-breach-items.result.now
    c.in_ok-broken.broken.items c.loop-breach.breach-index c.loop-breach.invariant c.loop-breach-test.false c.as_slice-breach-items.ensures.value none)
