use Rattle.std.proofs.Common.{◌∙◌, refl, sym}
use Rattle.cli_step.proofs.Adding.{on_ok}
use Rattle.cli_step.proofs.Joining.{grows_none}
use Rattle.cli_step.proofs.Playing.{all_ok, if_err}
use Rattle.cli_step.proofs.Prompting.{answers_by, does, line_fault, line_grows, refuses, shows_saved}
use Rattle.cli_step.specs.Doing.{point_of}
use Rattle.cli_step.specs.Prompts.{scene}
use Rattle.cli_step.proofs.prompt.answer.Goals as goal

pub returns-in-Some-clause-answers : goal.returns-in-Some-clause-answers
returns-in-Some-clause-answers g c =
    let p = point_of g.S.Store c.args.traced.now.plant in
    let a = scene p (g.W.Write.contents c.args.out.now) (g.E.Write.contents c.args.err.now) in
    let b = scene p (g.W.Write.contents c.show_word.new.out) (g.E.Write.contents c.args.err.now) in
    on_ok c.show_word.result (λ shown. answers_by _ c.args.line.now a b (sym c.in-Some.is ∙ c.prompt_word_at.ensures)
    (record { at = refl; out = shown; err = refl }))
    c.show_word.ensures.shown

pub returns-in-Some-clause-follows : goal.returns-in-Some-clause-follows
returns-in-Some-clause-follows g c = all_ok c.show_word.result c.requires.follows

pub returns-in-Some-clause-grows_err : goal.returns-in-Some-clause-grows_err
returns-in-Some-clause-grows_err g c = grows_none _

pub returns-in-None-clause-answers : goal.returns-in-None-clause-answers
returns-in-None-clause-answers g c =
    let p = point_of g.S.Store c.args.traced.now.plant in
    let q = point_of g.S.Store c.run_line.new.plant in
    let a = scene p (g.W.Write.contents c.args.out.now) (g.E.Write.contents c.args.err.now) in
    let b = scene q (g.W.Write.contents c.run_line.new.out) (g.E.Write.contents c.args.err.now) in
    let next = rw (c.in-Ok-Some.is, c.in-Ok-Some.field-0-is) at c.next.ensures.next in
    on_ok c.run_line.result (λ ran. answers_by _ c.args.line.now a b (sym c.in_default.is ∙ c.prompt_word_at.ensures)
    (does c.new-actions.result c.next.new.self c.args.line.now c.in-Ok-Some.action p q a.out b.out a.err c.new-actions.ensures.rest next
    (sym c.saved_session.ensures ∙ c.in-None.is) ran))
    c.run_line.ensures.ran

pub returns-in-None-clause-grows_out : goal.returns-in-None-clause-grows_out
returns-in-None-clause-grows_out g c =
    line_grows c.in-Ok-Some.action _ _ _ _ _ c.run_line.result c.run_line.ensures.ran c.run_line.ensures.failed

pub returns-in-None-clause-grows_err : goal.returns-in-None-clause-grows_err
returns-in-None-clause-grows_err g c = grows_none _

pub returns-in-None-clause-fault : goal.returns-in-None-clause-fault
returns-in-None-clause-fault g c =
    if_err c.run_line.result (λ e failed. line_fault c.in-Ok-Some.action _ _ _ _ e failed) c.run_line.ensures.failed

pub returns-in-Some-saved_session-clause-answers : goal.returns-in-Some-saved_session-clause-answers
returns-in-Some-saved_session-clause-answers g c =
    let p = point_of g.S.Store c.args.traced.now.plant in
    let a = scene p (g.W.Write.contents c.args.out.now) (g.E.Write.contents c.args.err.now) in
    let b = scene p (g.W.Write.contents c.show_saved.new.out) (g.E.Write.contents c.args.err.now) in
    let next = rw (c.in-Ok-Some.is, c.in-Ok-Some.field-0-is) at c.next.ensures.next in
    on_ok c.show_saved.result (λ shown. answers_by _ c.args.line.now a b (sym c.in_default.is ∙ c.prompt_word_at.ensures)
    (shows_saved c.new-actions.result c.next.new.self c.args.line.now c.in-Ok-Some.action c.in-Some-saved_session.s p a.out b.out a.err
    c.new-actions.ensures.rest next (sym c.saved_session.ensures ∙ c.in-Some-saved_session.is) shown))
    c.show_saved.ensures.shown

pub returns-in-Some-saved_session-clause-grows_err : goal.returns-in-Some-saved_session-clause-grows_err
returns-in-Some-saved_session-clause-grows_err g c = grows_none _

pub returns-in_ok-refusal-in-Err-clause-answers : goal.returns-in_ok-refusal-in-Err-clause-answers
returns-in_ok-refusal-in-Err-clause-answers g c =
    let p = point_of g.S.Store c.args.traced.now.plant in
    let a = scene p (g.W.Write.contents c.args.out.now) (g.E.Write.contents c.args.err.now) in
    let b = scene p (g.W.Write.contents c.args.out.now) (g.E.Write.contents c.report.new.err) in
    let next = rw c.in-Err.is at c.next.ensures.next in
    on_ok c.report.result (λ reported. answers_by _ c.args.line.now a b (sym c.in_default.is ∙ c.prompt_word_at.ensures)
    (refuses c.new-actions.result c.next.new.self c.args.line.now c.in-Err.error p a.out a.err b.err c.new-actions.ensures.rest next
    c.in_ok-refusal-in-Err.ensures.refused reported))
    c.report.ensures.reported
