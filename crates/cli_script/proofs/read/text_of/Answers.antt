use Rattle.std.proofs.Common.{◌∙◌, sym}
use Rattle.cli_script.proofs.Texts.{control, no_text, stray_space, words}
use Rattle.cli_script.proofs.read.text_of.Goals as goal

pub returns-in_default : goal.returns-in_default
returns-in_default c = no_text c.args.line.now c.in_default.ensures.cases.0

pub returns-then-has_control : goal.returns-then-has_control
returns-then-has_control c = control c.args.line.now c.in-Ok.ensures.cases.1 (sym c.has_control.ensures ∙ c.if-has_control.true)

pub returns-then-has_stray_space : goal.returns-then-has_stray_space
returns-then-has_stray_space c =
    let line = c.args.line.now in
    let text = c.in-Ok.text.now in
    let stray = sym c.has_stray_space.ensures ∙ c.if-has_stray_space.true in
    stray_space line c.in-Ok.ensures.cases.1 (sym c.has_control.ensures ∙ c.if-has_control.false) (rw c.in-Ok.ensures.cases.0 at stray)

pub returns : goal.returns
returns c =
    let none = sym c.has_stray_space.ensures ∙ c.if-has_stray_space.false in (
      c.in-Ok.ensures.cases.0,
      words c.args.line.now c.in-Ok.ensures.cases.1 (sym c.has_control.ensures ∙ c.if-has_control.false) (rw c.in-Ok.ensures.cases.0 at none),
    )
