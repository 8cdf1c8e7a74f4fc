use Rattle.std.proofs.Common.{◌∙◌, ap, List, length, ℕ}
use Rattle.tx_history.specs.declared.journal.JournalView.{JournalView}
use Rattle.tx_history.specs.declared.journal.WaitingContext.{WaitingContext}
use Rattle.tx_trace.proofs.Firsts.{tracks_first}
use Rattle.tx_trace.proofs.tracer.Tracer.new.Goals as goal

pub returns-clause-follows : goal.returns-clause-follows
returns-clause-follows c = tracks_first c.args.engine.now c.new.result _ c.history-history.ensures.start.view.ordered c.new.ensures.empty
    (ap (λ (xs : List (ℕ × WaitingContext)). length xs) (c.as_slice.ensures ∙ ap (λ (v : JournalView). v.shelf) c.opened.ensures))
