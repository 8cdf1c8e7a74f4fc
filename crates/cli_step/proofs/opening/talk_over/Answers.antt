use Rattle.std.proofs.Common.{[]}
use Rattle.std.proofs.lemmas.Result.{err_from_is_err_and}
use Rattle.cli_lines.specs.Lines.{to_come}
use Rattle.cli_step.proofs.Joining.{grows_none, grows_then}
use Rattle.cli_step.proofs.Prompting.{bad_sessions, fault_more, journal_fault, talked_over}
use Rattle.cli_step.specs.Prompts.{IsMade}
use Rattle.cli_step.proofs.opening.talk_over.Goals as goal

pub returns-in-Err-clause-grows_out : goal.returns-in-Err-clause-grows_out
returns-in-Err-clause-grows_out g c = grows_none _

pub returns-in-Err-clause-grows_err : goal.returns-in-Err-clause-grows_err
returns-in-Err-clause-grows_err g c = grows_none _

pub returns-in-Err-clause-fault : goal.returns-in-Err-clause-fault
returns-in-Err-clause-fault g c =
    rw c.at_line.ensures (journal_fault _ (IsMade c.args.plan.code c.args.plan.sessions) c.in-Err.error (rw c.in-Err.is at c.memory_journal.ensures.refused))

pub returns-clause-grows_out : goal.returns-clause-grows_out
returns-clause-grows_out g c = grows_then _ _ _ c.answer.ensures.grows_out c.talk.ensures.grows_out

pub returns-clause-grows_err : goal.returns-clause-grows_err
returns-clause-grows_err g c = grows_then _ _ _ c.answer.ensures.grows_err c.talk.ensures.grows_err

pub returns-clause-talked : goal.returns-clause-talked
returns-clause-talked g c =
    let opened = c.in-Ok-new.ensures.opened in
    talked_over c.args.plan.code c.args.plan.sessions c.args.line.now (to_come g.R.Read.remaining c.args.lines.now) _ _ _ _ _
    (record { journal = _; fresh = c.in-Ok.ensures.whole; view = opened.0; opened = opened.1; seated = c.in-Ok-new.ensures.seated })
    c.in_ok-answer.ensures.answers (rw c.in_ok-last.ensures.items at c.in_ok-talk.ensures.talked)

pub returns-in-Err-new-clause-refused : goal.returns-in-Err-new-clause-refused
returns-in-Err-new-clause-refused g c =
    bad_sessions c.args.plan.code c.args.plan.sessions _ _ _ c.in-Err-new.cause c.in_ok-plant_refused-in-Err-new.ensures.refused c.in-Err-new.ensures.refused

pub returns-in-Err-new-clause-grows_out : goal.returns-in-Err-new-clause-grows_out
returns-in-Err-new-clause-grows_out g c = grows_none _

pub returns-in-Err-new-clause-grows_err : goal.returns-in-Err-new-clause-grows_err
returns-in-Err-new-clause-grows_err g c = grows_none _

pub returns-in_err-answer-clause-fault : goal.returns-in_err-answer-clause-fault
returns-in_err-answer-clause-fault g c =
    let opened = c.in-Ok-new.ensures.opened in
    let error = err_from_is_err_and c.from_residual-in_err-answer.result c.from_residual-in_err-answer.ensures.1 in
    rw (error.1, error.2) (fault_more (λ _. (
      record { plant = _; names = _; calls = [] },
      record {
        journal = _;
        fresh = c.in-Ok.ensures.whole;
        view =
            opened.0;
        opened = opened.1;
        seated = c.in-Ok-new.ensures.seated;
      },
    )) c.in_err-answer.field-0.0 c.in_err-answer.ensures.fault)

pub returns-in_err-talk-clause-fault : goal.returns-in_err-talk-clause-fault
returns-in_err-talk-clause-fault g c =
    let opened = c.in-Ok-new.ensures.opened in
    let error = err_from_is_err_and c.from_residual-in_err-talk.result c.from_residual-in_err-talk.ensures.1 in
    rw (error.1, error.2) (fault_more (λ _. (
      record { plant = _; names = _; calls = [] },
      record {
        journal = _;
        fresh = c.in-Ok.ensures.whole;
        view =
            opened.0;
        opened = opened.1;
        seated = c.in-Ok-new.ensures.seated;
      },
    )) c.in_err-talk.field-0.0 c.in_err-talk.ensures.fault)

pub returns-in_err-talk-clause-grows_out : goal.returns-in_err-talk-clause-grows_out
returns-in_err-talk-clause-grows_out g c = grows_then _ _ _ c.answer.ensures.grows_out c.talk.ensures.grows_out

pub returns-in_err-talk-clause-grows_err : goal.returns-in_err-talk-clause-grows_err
returns-in_err-talk-clause-grows_err g c = grows_then _ _ _ c.answer.ensures.grows_err c.talk.ensures.grows_err
