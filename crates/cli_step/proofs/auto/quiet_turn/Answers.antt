use Rattle.std.proofs.Common.{◌∙◌, [], append-nil, string_bytes, sym}
use Rattle.cli_step.proofs.Adding.{still_text}
use Rattle.cli_step.proofs.auto.quiet_turn.Goals as goal
use Rattle.tx_plant.specs.Wholes.{engine_of}

pub returns-then-not-is_refused-clause-quietly : goal.returns-then-not-is_refused-clause-quietly
returns-then-not-is_refused-clause-quietly g c =
    let o = c.in_ok-outcome.outcome in
    let refused = sym c.is_refused.ensures ∙ c.if-not-is_refused.true in
    ([], (o, c.in_ok-outcome.ensures.does, still_text (engine_of c.do_turn.new.plant) o refused), sym (append-nil (string_bytes c.args.text.now)))
