use Rattle.std.proofs.Common.{map}
use Rattle.sw_frame.specs.Stream.{AreFramed}
use Rattle.run_responses.specs.Responses.{responses}
use Rattle.run_responses.proofs.given.text_above.Given as goal

abbrev pub invariant-loop-number : goal.invariant-loop-number
invariant-loop-number l = AreFramed l.text.items (responses (map (λ e. (e.0.now, e.1.now)) l.yielded))
