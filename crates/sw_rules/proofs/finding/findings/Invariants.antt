use Rattle.std.proofs.Common.{◌≡◌, map, take}
use Rattle.sw_rules.specs.Named.{finding_of, plain}
use Rattle.sw_rules.proofs.finding.findings.Given as goal

abbrev pub invariant-loop-breach : goal.invariant-loop-breach
invariant-loop-breach l = map plain l.found.items ≡ map (finding_of l.flow l.set_up) (take l.breach-index l.breach-items)
