use Rattle.std.proofs.Common.{◌+◌, ◌∙◌, ap, sym, arith, ℕ, List, Some}
use Rattle.std.specs.Global.{Vec}
use Rattle.std.specs.Prelude.{Option, option_map}
use Rattle.std.proofs.lemmas.List.{length-take-le}
use Rattle.flow_model.specs.declared.flow.Flow.{Flow}
use Rattle.tx_trace.specs.Lines.{at_number, json_text}
use Rattle.run_switch.specs.declared.reporter.LineForm.TheVariants.{JsonWithRecords}
use Rattle.run_switch.specs.Lines.{with_record}
use Rattle.run_switch.proofs.Printing.{line_as}
use Rattle.run_switch.proofs.WithRecords.{line_with_record, none_left, reaches}
use Rattle.run_switch.proofs.with_records.next_with_record.Goals as goal

pub returns-in_default-clause-line : goal.returns-in_default-clause-line
returns-in_default-clause-line c =
    let w = c.args.engine.now in
    absurd (none_left w.flow w.start w.past c.args.number _ _ c.requires.within c.requires.number
    (ap (option_map (λ (l : Vec ℕ). l.items)) c.in_default.is) c.in_ok-line.ensures.line)

pub bounds-history-number : goal.bounds-history-number
bounds-history-number c =
    let w = c.args.engine.now in
    reaches w.flow w.start w.past c.history-history.result.now c.args.number c.history-history.ensures.entries c.requires.within

pub offset_bounds-history-number : goal.offset_bounds-history-number
offset_bounds-history-number c = omega (arith, bounds-history-number c, c.history-history.type_inv)

pub slice_bounds-object_of-end : goal.slice_bounds-object_of-end
slice_bounds-object_of-end c =
    let lt = bounds-history-number c in sym (length-take-le c.args.number c.history-history.result.now (omega (arith, lt)))

pub returns-clause-line : goal.returns-clause-line
returns-clause-line c =
    let w = c.args.engine.now in
    let line = line_with_record w.flow w.start w.past c.history-history.result.now c.retries-retries.result c.args.number
    c.index-history-number.result c.in-Some.line.items c.history-history.ensures.entries
    (c.retries-retries.ensures.retries ∙ ap (λ (f : Flow). f.retries) c.code.ensures)
    (reaches w.flow w.start w.past c.history-history.result.now c.args.number c.history-history.ensures.entries c.requires.within)
    c.index-history-number.is
    (sym (ap (option_map (λ (l : Vec ℕ). l.items)) c.in-Some.is) ∙ (c.in_ok-line.ensures.line
    ∙ ap (λ (k : ℕ). at_number (json_text w.flow w.start) w.past (k + 1)) c.requires.number)) in
    ap (λ (l : List ℕ). Some l) (c.in_ok-with_record.ensures ∙ ap (λ (o : Option (List ℕ)). with_record c.in-Some.line.items o) c.in_ok-object.ensures)
    ∙ (line ∙ ap (λ (k : ℕ). at_number (line_as JsonWithRecords w.flow w.start) w.past (k + 1)) (sym c.requires.number))
