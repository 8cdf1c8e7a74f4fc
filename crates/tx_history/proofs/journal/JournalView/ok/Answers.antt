use Rattle.std.proofs.Common.{sym, subst, ◌∙◌}
use Rattle.tx_history.specs.Views.{AllUnder, RowFits, WaitingFits}
use Rattle.tx_history.proofs.ViewTests.{ok_tested, ok_shelf}
use Rattle.tx_history.proofs.journal.JournalView.ok.Goals as goal

pub returns : goal.returns
returns c =
    let rows = subst (AllUnder RowFits) c.as_slice.ensures (c.rows_fit.ensures.0 c.if-not-rows_fit.false) in
    let numbers = sym c.numbers_fit.ensures ∙ c.if-not-numbers_fit.false in (
      λ h. ok_tested c.args.self.now numbers rows (subst (AllUnder WaitingFits) c.as_slice-2.ensures (c.shelf_fits.ensures.0 h)),
      λ k. c.shelf_fits.ensures.1 (subst (AllUnder WaitingFits) (sym c.as_slice-2.ensures) (ok_shelf c.args.self.now k)),
    )
