use Rattle.std.proofs.Common.{◌≡◌, map}
use Rattle.sw_stats.specs.Line.{declined_text}
use Rattle.sw_stats.proofs.line.declined_text.Given as goal

abbrev pub invariant-loop-code : goal.invariant-loop-code
invariant-loop-code l = l.text.items ≡ declined_text (map (λ e. (e.0.now, e.1.now)) l.yielded)
