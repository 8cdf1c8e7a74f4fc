use Rattle.std.proofs.Common.{◌≡◌, subst, List, ℕ}
use Rattle.flow_model.specs.declared.flow.Flow.{Flow}
use Rattle.tx_machine.specs.Table.{opening}
use Rattle.tx_history.specs.declared.event.Event.{Event}
use Rattle.tx_history.specs.Journal.{row}
use Rattle.tx_trace.specs.Follow.{IsBegun, IsTraced, earlier}
use Rattle.tx_trace.proofs.Answered.{answered_so}
use Rattle.tx_trace.proofs.Tracked.{other_traced, taken_traced}
use Rattle.tx_trace.proofs.tracer.Tracer.other.Goals as goal

pub returns-in-Some : goal.returns-in-Some
returns-in-Some c =
    let f : Flow = c.args.engine.now.flow in
    let past : List Event = earlier c.args.self.now.done c.args.engine.now.past in
    answered_so _ (IsTraced f c.args.engine.now.start past c.args.entry.now.event) c.begun.result
    (λ t begun. taken_traced f c.args.engine.now.start past c.args.entry.now.event c.args.entry.now.change c.in-Taken.session c.in-Some.id c.in-Some.row t
    c.in-Taken.is c.requires.next.start.view.ordered c.requires.next.lawful c.requires.next.change c.in-Some.is
    (subst (λ (f : Flow). (tries : ℕ) (saved : List ℕ) → c.in-Some.row ≡ row f (opening f tries saved) →
    IsBegun f c.in-Some.id c.in-Taken.session (opening f tries saved) t) c.code-code.ensures begun))
    c.begun.ensures

pub returns-in_default : goal.returns-in_default
returns-in_default c =
    other_traced c.args.engine.now.flow c.args.engine.now.start (earlier c.args.self.now.done c.args.engine.now.past) c.args.entry.now.event
    c.plain-in_default.result c.args.self.now.shelved c.requires.next.start.view.ordered c.requires.next.lawful c.requires.other c.in_default.not-Taken
    c.requires.next.tracks.shelved
    c.plain-in_default.ensures.shown c.plain-in_default.ensures.moved
