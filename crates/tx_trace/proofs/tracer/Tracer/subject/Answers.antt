use Rattle.std.proofs.Common.{◌∙◌, refl, List}
use Rattle.tx_engine.proofs.Gives.{are_known}
use Rattle.tx_history.specs.declared.event.Event.{Event}
use Rattle.tx_trace.specs.Follow.{IsSubject, earlier}
use Rattle.tx_trace.proofs.Answered.{answered_so}
use Rattle.tx_trace.proofs.Given.{subject_item, subject_restored}
use Rattle.tx_trace.proofs.tracer.Tracer.subject.Goals as goal

pub next_recovered-requires : goal.next_recovered-requires
next_recovered-requires c = rw (c.code.ensures, c.as_slice-rows.ensures, c.opened.ensures)
    (are_known c.args.engine.now.flow c.args.engine.now.start c.requires.start.view.ordered c.requires.start.knows)

pub returns-in-Recovered : goal.returns-in-Recovered
returns-in-Recovered c =
    let past : List Event = earlier c.args.self.now.done c.args.engine.now.past in
    answered_so _ (IsSubject c.args.engine.now.flow c.args.engine.now.start past c.args.entry.now.event) c.next_recovered.result
    (λ o at. subject_restored c.args.engine.now.flow c.args.engine.now.start past c.args.entry.now.event c.in-Recovered.session c.in-Recovered.context
    c.args.self.now.over o c.in-Recovered.is c.requires.start.view.ordered c.requires.lawful c.requires.tracks.over
    (at ∙ (rw (c.code.ensures, c.as_slice-rows.ensures, c.opened.ensures) refl))) c.next_recovered.ensures

pub returns-in-Answered : goal.returns-in-Answered
returns-in-Answered c = subject_item c.args.engine.now.flow c.args.engine.now.start (earlier c.args.self.now.done c.args.engine.now.past)
    c.args.entry.now.event c.row_id.result (rw c.in-Answered.is refl) c.requires.start.view.ordered c.requires.lawful
    (rw (← c.requires.change) c.row_id.ensures)

pub returns-in-Chose : goal.returns-in-Chose
returns-in-Chose c = subject_item c.args.engine.now.flow c.args.engine.now.start (earlier c.args.self.now.done c.args.engine.now.past)
    c.args.entry.now.event c.row_id-in-Chose.result (rw c.in-Chose.is refl) c.requires.start.view.ordered c.requires.lawful
    (rw (← c.requires.change) c.row_id-in-Chose.ensures)

pub returns-in-Told : goal.returns-in-Told
returns-in-Told c = subject_item c.args.engine.now.flow c.args.engine.now.start (earlier c.args.self.now.done c.args.engine.now.past) c.args.entry.now.event
    c.row_id-in-Told.result (rw c.in-Told.is refl) c.requires.start.view.ordered c.requires.lawful (rw (← c.requires.change) c.row_id-in-Told.ensures)
