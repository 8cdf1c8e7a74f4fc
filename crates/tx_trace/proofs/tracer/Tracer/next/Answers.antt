use Rattle.std.proofs.Common.{◌∙◌, sym, ap, subst, arith, ℕ, Some}
use Rattle.flow_model.specs.declared.flow.Flow.{Flow}
use Rattle.tx_trace.specs.declared.shown.Shown.{Shown}
use Rattle.tx_trace.specs.Trace.{shown_text}
use Rattle.tx_trace.specs.Lines.{line_text}
use Rattle.tx_trace.specs.Trace.{Text}
use Rattle.tx_trace.specs.Follow.{Tracks, earlier}
use Rattle.tx_trace.proofs.Earlier.{next_is, no_line}
use Rattle.tx_trace.proofs.tracer.Tracer.next.Goals as goal

pub returns-in_default-clause-line : goal.returns-in_default-clause-line
returns-in_default-clause-line c = sym (no_line (line_text c.args.engine.now.flow c.args.engine.now.start) c.args.engine.now c.args.self.now
    c.history.result.now c.history.ensures.entries c.in_default.ensures.lookup.3)

pub traced-requires : goal.traced-requires
traced-requires c = (next_is c.args.engine.now c.args.self.now c.history.result.now c.in-Some.entry.now _ c.history.ensures.entries
    c.in-Some.ensures.lookup.3.0 c.in-Some.ensures.lookup.1 c.history.ensures.start c.history.ensures.lawful.lawful c.requires).next

pub follow-requires-clause-next : goal.follow-requires-clause-next
follow-requires-clause-next c = (next_is c.args.engine.now c.args.self.now c.history.result.now c.in-Some.entry.now _ c.history.ensures.entries
    c.in-Some.ensures.lookup.3.0 c.in-Some.ensures.lookup.1 c.history.ensures.start c.history.ensures.lawful.lawful c.requires).next

pub returns-clause-line : goal.returns-clause-line
returns-clause-line c =
    let n = next_is c.args.engine.now c.args.self.now c.history.result.now c.in-Some.entry.now _ c.history.ensures.entries c.in-Some.ensures.lookup.3.0
    c.in-Some.ensures.lookup.1 c.history.ensures.start c.history.ensures.lawful.lawful c.requires in
    let event = c.in-Some.entry.now.event in
    ap (λ (t : Text). Some t) (c.in_ok-line.ensures
    ∙ (ap (λ (f : Flow). shown_text f c.in_ok-traced.traced.shown event) c.code.ensures
    ∙ ap (λ (s : Shown). shown_text c.args.engine.now.flow s event) c.in_ok-traced.ensures.shown)) ∙ sym n.line

pub returns-clause-follows : goal.returns-clause-follows
returns-clause-follows c =
    let n = next_is c.args.engine.now c.args.self.now c.history.result.now c.in-Some.entry.now _ c.history.ensures.entries c.in-Some.ensures.lookup.3.0
    c.in-Some.ensures.lookup.1 c.history.ensures.start c.history.ensures.lawful.lawful c.requires in
    let done = c.in_ok-follow.ensures.done in
    let within = n.within in
    record {
      within = omega arith;
      tracks = subst (λ (k : ℕ). Tracks c.args.engine.now.flow c.args.engine.now.start (earlier k c.args.engine.now.past)
          c.follow.new.self) (sym done) (rw n.split c.in_ok-follow.ensures.tracks);
    }
