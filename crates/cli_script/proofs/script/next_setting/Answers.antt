use Rattle.std.proofs.Common.{◌∙◌, ◌+◌, Ok, ap, inr, refl, sym}
use Rattle.cli_script.proofs.Heads.{line_refused, meant}
use Rattle.cli_script.specs.Grammar.{meaning_of}
use Rattle.cli_script.specs.Scripts.{line_of}
use Rattle.cli_script.proofs.script.next_setting.Goals as goal

pub returns-in-Err : goal.returns-in-Err
returns-in-Err c =
    let answers = rw c.in-Some.ensures.1 at c.in-Err.ensures in (
      c.in-Some.ensures.0,
      rw (c.error_at.ensures, c.in-Some.ensures.1)
          (line_refused c.args.has_file (c.args.lines + 1) (line_of c.args.rest.now) c.in-Err.cause answers),
    )

pub returns-then-is_misplaced : goal.returns-then-is_misplaced
returns-then-is_misplaced c =
    let answers = rw c.in-Some.ensures.1 at c.in-Ok.ensures in
    let means = meant (meaning_of (line_of c.args.rest.now)) c.in-Ok.meaning answers ∙ ap Ok c.in-Setting.is in (
      c.in-Some.ensures.0,
      (
        (refl, rw (c.of-found.ensures, c.in-Some.ensures.1) refl),
        (c.in-Setting.setting, means, sym c.is_misplaced.ensures ∙ c.if-is_misplaced.true),
      ),
    )

pub returns-in-Setting : goal.returns-in-Setting
returns-in-Setting c =
    let answers = rw c.in-Some.ensures.1 at c.in-Ok.ensures in
    let means = meant (meaning_of (line_of c.args.rest.now)) c.in-Ok.meaning answers ∙ ap Ok c.in-Setting.is in
    ((c.in-Some.ensures.0, means), sym c.is_misplaced.ensures ∙ c.if-is_misplaced.false, c.in-Some.ensures.2)

pub returns : goal.returns
returns c =
    let answers = rw c.in-Some.ensures.1 at c.in-Ok.ensures in
    let means = meant (meaning_of (line_of c.args.rest.now)) c.in-Ok.meaning answers ∙ ap Ok c.in-Action.is in
    inr (c.in-Some.ensures.0, (c.in-Action.field-0, means))
