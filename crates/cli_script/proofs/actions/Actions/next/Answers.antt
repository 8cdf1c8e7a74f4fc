use Rattle.std.proofs.Common.{◌∙◌, ◌+◌, Ok, ap, refl, rules}
use Rattle.std.proofs.lemmas.Result.{err_from_is_err_and}
use Rattle.cli_script.proofs.Heads.{action_refused, fewer, meant}
use Rattle.cli_script.specs.Grammar.{meaning_of}
use Rattle.cli_script.specs.Scripts.{line_of}
use Rattle.cli_script.proofs.actions.Actions.next.Goals as goal

pub returns-in-Err-clause-next : goal.returns-in-Err-clause-next
returns-in-Err-clause-next c =
    let rest = c.args.self.now.rest.now in
    let answers = rw c.in-Some.ensures.1 at c.in-Err.ensures in (
      c.in-Some.ensures.0,
      rw (c.error_at.ensures, c.in-Some.ensures.1)
          (action_refused (c.args.self.now.lines + 1) (line_of rest) c.in-Err.cause answers),
      refl,
    )

pub returns-in_default-action_of-clause-next : goal.returns-in_default-action_of-clause-next
returns-in_default-action_of-clause-next c =
    let answers = rw c.in-Some.ensures.1 at c.in-Ok.ensures in
    let means = meant (meaning_of (line_of c.args.self.now.rest.now)) c.in-Ok.meaning answers in
    let setting = c.in_default-action_of.ensures in
    (c.in-Some.ensures.0, ((refl, rw (c.of-found.ensures, c.in-Some.ensures.1) refl), (setting.0, means ∙ ap Ok setting.1)), refl)

pub returns-then-branch-clause-next : goal.returns-then-branch-clause-next
returns-then-branch-clause-next c =
    let answers = rw c.in-Some.ensures.1 at c.in-Ok.ensures in
    let means = meant (meaning_of (line_of c.args.self.now.rest.now)) c.in-Ok.meaning answers in (
      c.in-Some.ensures.0,
      (
        (refl, rw (c.of-found-then-branch.ensures, c.in-Some.ensures.1) refl),
        (c.in-Some-action_of.action, means ∙ ap Ok c.in-Some-action_of.ensures, search rules),
      ),
      refl,
    )

pub returns-clause-next : goal.returns-clause-next
returns-clause-next c =
    let answers = rw c.in-Some.ensures.1 at c.in-Ok.ensures in
    let means = meant (meaning_of (line_of c.args.self.now.rest.now)) c.in-Ok.meaning answers in
    (c.in-Some.ensures.0, c.in-Some.ensures.2, refl, means ∙ ap Ok c.in-Some-action_of.ensures, search rules)

pub returns-clause-fewer : goal.returns-clause-fewer
returns-clause-fewer c = rw c.in-Some.ensures.2 (fewer c.args.self.now.rest.now c.in-Some.ensures.0)

pub returns-in_err-crowds-clause-next : goal.returns-in_err-crowds-clause-next
returns-in_err-crowds-clause-next c =
    let answers = rw c.in-Some.ensures.1 at c.in-Ok.ensures in
    let means = meant (meaning_of (line_of c.args.self.now.rest.now)) c.in-Ok.meaning answers in
    let error = err_from_is_err_and c.from_residual.result c.from_residual.ensures.1 in
    rw (error.1, error.2) (c.in-Some.ensures.0, (c.in-Ok.meaning, means), refl)
