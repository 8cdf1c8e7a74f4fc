use Rattle.std.proofs.Common.{◌∙◌, [], None, append-nil, string_bytes, sym}
use Rattle.tx_plant.specs.declared.turn.Turn.TheVariants as turn
use Rattle.tx_plant.specs.Wholes.{engine_of}
use Rattle.cli_step.proofs.Adding.{adds_then, idle_ends, idle_text, told_text}
use Rattle.cli_step.specs.Auto.{Quietly, Steps}
use Rattle.cli_step.specs.Doing.{point_of}
use Rattle.cli_step.specs.TurnLines.{turn_line, whole_line}
use Rattle.cli_step.proofs.auto.auto_step.Goals as goal

pub returns-then-is_idle-clause-round : goal.returns-then-is_idle-clause-round
returns-then-is_idle-clause-round g c =
    let p = point_of g.S.Store c.args.plant.now in
    let w = point_of g.S.Store c.quiet_turn.new.plant in
    let q = point_of g.S.Store c.do_turn.new.plant in
    let o = c.in_ok-outcome.outcome in
    let idle = sym c.is_idle.ensures ∙ c.if-is_idle.true in
    let text = string_bytes c.quiet_turn.new.text in (
      o,
      idle_ends o idle,
      adds_then (Quietly (turn.Write None)) (Steps o) p w q (string_bytes c.args.text.now) text text c.in_ok-quiet_turn.ensures.quietly
          ([], (c.in_ok-outcome.ensures.does, idle_text (engine_of c.do_turn.new.plant) o idle), sym (append-nil text)),
    )

pub returns-clause-round : goal.returns-clause-round
returns-clause-round g c =
    let p = point_of g.S.Store c.args.plant.now in
    let w = point_of g.S.Store c.quiet_turn.new.plant in
    let q = point_of g.S.Store c.do_turn.new.plant in
    let o = c.in_ok-outcome.outcome in
    let idle = sym c.is_idle.ensures ∙ c.if-is_idle.false in
    let world = engine_of c.do_turn.new.plant in
    let line = rw c.engine.ensures at c.in_ok-push_turn.ensures.line in (
      o,
      sym c.is_accepted.ensures,
      adds_then (Quietly (turn.Write None)) (Steps o) p w q (string_bytes c.args.text.now) (string_bytes c.quiet_turn.new.text)
          (string_bytes c.push_turn.new.text) c.in_ok-quiet_turn.ensures.quietly (
            whole_line (turn_line world 0 o),
            (c.in_ok-outcome.ensures.does, told_text world o idle),
            line,
          ),
    )
