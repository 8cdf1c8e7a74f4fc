use Rattle.std.proofs.Common.{◌∙◌, rules, sym}
use Rattle.cli_script.proofs.Heads.{acts, flow_refused}
use Rattle.cli_script.proofs.script.open_script.Goals as goal

pub returns-in-Err-clause-refused : goal.returns-in-Err-clause-refused
returns-in-Err-clause-refused c =
    let head = rw c.is_some.ensures at c.in_ok-settings.ensures.head in
    let begins = acts c.in_ok-settings.field-0.rest.now c.in_ok-settings.ensures.all (search rules) in
    flow_refused c.args.file c.args.script.now c.in_ok-settings.field-0.rest.now c.in_ok-settings.field-0.settings c.in_ok-settings.field-0.lines _
    c.in-Err.cause head begins c.into_parts-flow.ensures.flow (search rules)

pub returns-clause-opened : goal.returns-clause-opened
returns-clause-opened c =
    let head = rw c.is_some.ensures at c.in_ok-settings.ensures.head in
    let begins = acts c.in_ok-settings.field-0.rest.now c.in_ok-settings.ensures.all (search rules) in
    let ss = head.stated in
    let kept = head.states in
    record {
      stated = ss;
      after = rw c.new-actions.ensures.rest head.after;
      placed = head.placed;
      acts = rw c.new-actions.ensures.rest begins;
      count = head.count ∙ sym c.new-actions.ensures.lines;
      flow = c.into_parts-flow.ensures.flow ss kept;
      checked = search rules;
      sessions = c.sessions-sessions.ensures ss kept;
      replies = c.into_parts-flow.ensures.replies ss kept;
    }
