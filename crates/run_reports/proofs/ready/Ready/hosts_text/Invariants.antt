use Rattle.std.proofs.Common.{◌≡◌, take, string_bytes}
use Rattle.run_reports.specs.Ready.{hosts_text}
use Rattle.run_reports.proofs.ready.Ready.hosts_text.Given as goal

abbrev pub invariant-loop-name : goal.invariant-loop-name
invariant-loop-name l = string_bytes l.text ≡ hosts_text (take l.name-index l.name-items)
