use Rattle.std.proofs.Common.{rules}
use Rattle.cli_script.proofs.Heads.{stated_refused}
use Rattle.cli_script.proofs.script.open_settings.Goals as goal

pub returns-in-Err-clause-refused : goal.returns-in-Err-clause-refused
returns-in-Err-clause-refused c =
    let head = rw c.is_some.ensures at c.in_ok-settings.ensures.head in
    stated_refused c.args.file c.args.settings.now c.in_ok-settings.field-0.rest.now c.in_ok-settings.field-0.settings c.in_ok-settings.field-0.lines
    c.args.line _ c.in-Err.cause head c.in_ok-settings.ensures.all c.into_parts-flow.ensures.flow (search rules)

pub returns-in-Ok-clause-stated : goal.returns-in-Ok-clause-stated
returns-in-Ok-clause-stated c =
    let head = rw c.is_some.ensures at c.in_ok-settings.ensures.head in
    let ss = head.stated in
    let kept = head.states in
    record {
      stated = ss;
      rest = c.in_ok-settings.field-0.rest.now;
      after = head.after;
      ends = c.in_ok-settings.ensures.all;
      placed = head.placed;
      flow = c.into_parts-flow.ensures.flow ss kept;
      checked = search rules;
      sessions = c.sessions-sessions.ensures ss kept;
      replies = c.into_parts-flow.ensures.replies ss kept;
    }
