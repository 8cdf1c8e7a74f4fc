use Rattle.std.proofs.Common.{◌≡◌, ◌∙◌, refl, sym, ap, List, ℕ, None, Some}
use Rattle.tx_machine.specs.Contract.{tx_state}
use Rattle.tx_machine.specs.declared.values.Due.{Due}
use Rattle.tx_machine.specs.Table.{opening}
use Rattle.tx_machine.specs.Due.{due_of}
use Rattle.tx_history.specs.Journal.{row}
use Rattle.tx_trace.specs.declared.shown.Shown.TheVariants.{Begun}
use Rattle.tx_trace.proofs.Begun.{no_row_done, no_row_ended, row_opening}
use Rattle.tx_trace.proofs.tracer.begun.Goals as goal

pub returns-in_default : goal.returns-in_default
returns-in_default c = λ tries saved is.
    let none : row c.args.code.now (opening c.args.code.now tries saved) ≡ None = sym is ∙ c.in_default.is in
    record {
      shown = ap (λ (d : Due). Begun c.args.id c.args.session d) (sym (no_row_done c.args.code.now tries saved none));
      moves = (refl, no_row_ended c.args.code.now (opening c.args.code.now tries saved) none);
    }

pub returns : goal.returns
returns c = λ tries saved is.
    let some : row c.args.code.now (opening c.args.code.now tries saved) ≡ Some c.in-Some.row = sym is ∙ c.in-Some.is in
    let context : c.into_vec.result.items ≡ c.in-Some.row.context = c.into_vec.ensures ∙ c.in_ok-saved.ensures in
    let state : tx_state c.args.code.now c.start-machine.result ≡ opening c.args.code.now tries saved =
    c.start-machine.ensures.state ∙ (ap (λ (x : List ℕ). opening c.args.code.now c.in-Some.row.tries x) context ∙ row_opening c.args.code.now tries saved
    c.in-Some.row some) in
    let due : c.due-due.result ≡ due_of c.args.code.now (opening c.args.code.now tries saved) = c.due-due.ensures.due ∙ ap (due_of c.args.code.now) state in
    record {
      shown = ap (λ (d : Due). Begun c.args.id c.args.session d) due;
      moves = (refl, c.start-machine.ensures.sound, state);
    }
