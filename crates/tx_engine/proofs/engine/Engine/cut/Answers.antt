use Rattle.std.proofs.Common.{◌∙◌, refl, ap}
use Rattle.tx_history.specs.declared.journal.JournalView.{JournalView}
use Rattle.tx_engine.proofs.Cuts.{accepts_cut, cut_kept, cut_shown}
use Rattle.tx_engine.proofs.engine.Engine.cut.Goals as goal

pub invariant_of-self : goal.invariant_of-self
invariant_of-self c =
    rw (c.clear_entries.ensures.queue, c.clear_entries.ensures.reserved) (cut_kept _ _ _ _ _ _ _ _ _ _ _ _ c.self.invariant c.self.view_is refl
    c.in_ok-allow_cut.ensures c.in_ok-view.ensures
    (c.new.ensures ∙ c.in_ok-queue.ensures) (c.new-2.ensures ∙ (rw c.as_slice.ensures.value at c.in_ok-breaks.ensures)) c.clear_entries.ensures.entries)

pub returns-clause-cut : goal.returns-clause-cut
returns-clause-cut c =
    accepts_cut c.args.self.now _ _ c.in_ok-allow_cut.ensures
    (rw c.clear_entries.ensures.reserved (cut_shown _ _ _ _ _ _ _ _ _ _ _ _ c.self.invariant c.self.view_is c.in_ok-allow_cut.ensures c.in_ok-view.ensures
    (c.new.ensures ∙ c.in_ok-queue.ensures) (c.new-2.ensures ∙ (rw c.as_slice.ensures.value at c.in_ok-breaks.ensures)) c.clear_entries.ensures.entries))

pub returns-clause-finished : goal.returns-clause-finished
returns-clause-finished c = ap (λ (v : JournalView). v.rows) c.in_ok-view.ensures
