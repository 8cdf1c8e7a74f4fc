-- The journal that a connection's opening finds.
-- for: found::open, found::found_by
use Rattle.std.proofs.Common.{◌≡◌, ◌≤◌, ℕ, length, Option, Some, Ok, Err, arith, sym, ap, subst, inl, inr, ◌∙◌}
use Rattle.sqlite_trees.specs.declared.store.Store.{Ghosts}
use Rattle.sqlite_trees.specs.View.{doubt}
use Rattle.sqlite_schema.specs.declared.schema.Schema.{Schema}
use Rattle.sqlite.specs.Held.{Held, state}
use Rattle.sqlite.specs.State.{IsLive}
use Rattle.tx_history.specs.declared.journal.JournalView.{JournalView}
use Rattle.journal_store.specs.Kept.{IsCleanJournal, Kept, kept}
use Rattle.journal_store.specs.Left.{doubt_of}
use Rattle.journal_store.specs.Means.{Means}
use Rattle.journal_store.specs.Converted.{IsNaming}
use Rattle.journal_store.specs.declared.journal.Left.{Left}
use Rattle.journal_store.specs.declared.error.Cause.TheVariants.{Memory, Refused}
use Rattle.journal_store.specs.declared.error.JournalError.{JournalError}
use Rattle.journal_store.specs.declared.error.JournalError.TheVariants as journal
use Rattle.journal_copy.specs.declared.error.LookError.{LookError}
use Rattle.journal_copy.specs.declared.found.FoundJournal.{FoundJournal}
use Rattle.journal_copy.specs.Errors.{error_of_journal}
use Rattle.journal_rows.specs.declared.error.BadRow.{BadRow}
use Rattle.journal_copy.specs.Found.{IfBadRow, IfRest, IsFaultBy, IsFoundBy, IsOpenedBy, IsSpoilt, layout_by}

-- what is said of a bad row holds of it with the rest of the journal
bad_spoilt : (P : BadRow → Type 0) (e : JournalError) (r : LookError) → IsSpoilt e r → IfBadRow P (error_of_journal e) → IfBadRow P r
bad_spoilt P (journal.BadRow bad) r (inl is) h = subst (IfBadRow P) (sym is) tt
bad_spoilt P (journal.BadRow bad) r (inr is) h = subst (IfBadRow P) (sym is.1) h
bad_spoilt P journal.OutOfMemory r is h = subst (IfBadRow P) (sym is) h
bad_spoilt P journal.Failed r is h = subst (IfBadRow P) (sym is) h
bad_spoilt P (journal.Store c) r is h = subst (IfBadRow P) (sym is) h

-- the rest of the journal
pub rest_spoilt : (e : JournalError) (r : LookError) → IsSpoilt e r → IfRest r
rest_spoilt (journal.BadRow bad) r (inl is) = subst IfRest (sym is) tt
rest_spoilt (journal.BadRow bad) r (inr is) = subst IfRest (sym is.1) is.2
rest_spoilt journal.OutOfMemory r is = subst IfRest (sym is) tt
rest_spoilt journal.Failed r is = subst IfRest (sym is) tt
rest_spoilt (journal.Store Memory) r is = subst IfRest (sym is) tt
rest_spoilt (journal.Store Refused) r is = subst IfRest (sym is) tt

module _ {S : Type 0} (g : Ghosts S) where
  bad_left : (conn : Held S) (left : Left S) (e : JournalError) → (doubt_of g left ≡ 0 → IsNaming (state g conn).committed.trees e) →
      IfBadRow (IsFaultBy g conn) (error_of_journal e)
  bad_left conn left (journal.BadRow bad) h = inl (left, h)
  bad_left conn left journal.OutOfMemory h = tt
  bad_left conn left journal.Failed h = tt
  bad_left conn left (journal.Store Memory) h = tt
  bad_left conn left (journal.Store Refused) h = tt

  -- an opening that was refused
  pub bad_opened : (conn : Held S) (left : Left S) (e : JournalError) (r : LookError) → IsSpoilt e r
      → (doubt_of g left ≡ 0 → IsNaming (state g conn).committed.trees e) → IfBadRow (IsFaultBy g conn) r
  bad_opened conn left e r is h = bad_spoilt (IsFaultBy g conn) e r is (bad_left conn left e h)

  -- what is clean was clean
  before : (m n : ℕ) → m ≤ n → n ≡ 0 → m ≡ 0
  before m n le none = omega arith

  -- a view that was refused
  bad_view : (conn : Held S) (was last : Kept S) (e : JournalError) → IsOpenedBy g conn was → doubt (kept g was).is_clean ≤ doubt (kept g last).is_clean
      → (IsCleanJournal (kept g last) → Means (kept g was).tables last.failed (Err e)) → IfBadRow (IsFaultBy g conn) (error_of_journal e)
  bad_view conn was last (journal.BadRow bad) opened clean means =
      inr (last, λ now. ((kept g was).tables, (opened.opened (before _ _ clean now)).1, (means now).0))
  bad_view conn was last journal.OutOfMemory opened clean means = tt
  bad_view conn was last journal.Failed opened clean means = tt
  bad_view conn was last (journal.Store Memory) opened clean means = tt
  bad_view conn was last (journal.Store Refused) opened clean means = tt

  pub bad_viewed : (conn : Held S) (was last : Kept S) (e : JournalError) (r : LookError) → IsSpoilt e r → IsOpenedBy g conn was →
      doubt (kept g was).is_clean ≤ doubt (kept g last).is_clean
      → (IsCleanJournal (kept g last) → Means (kept g was).tables last.failed (Err e)) → IfBadRow (IsFaultBy g conn) r
  bad_viewed conn was last e r is opened clean means = bad_spoilt (IsFaultBy g conn) e r is (bad_view conn was last e opened clean means)

  -- a view that was read
  pub found_view : (conn : Held S) (was last : Kept S) (layout : ℕ) (view : JournalView) → layout_by (length (state g conn).now.schema.tables) ≡ Some layout
      → IsLive (state g conn)
      → IsOpenedBy g conn was → doubt (kept g was).is_clean ≤ doubt (kept g last).is_clean
      → (IsCleanJournal (kept g last) → Means (kept g was).tables last.failed (Ok view)) → IsFoundBy g conn (record { layout = layout; view = view })
  found_view conn was last layout view is live opened clean means = record {
    layout = is;
    live = live;
    last = last;
    reads = λ now. let o = opened.opened (before _ _ clean now) in (o.0, ((kept g was).tables, o.1, (means now).0));
  }

-- the layout by the number of tables
pub layout_is : (n layout : ℕ) (r : Option ℕ) (s t : Schema) → r ≡ layout_by n → n ≡ length s.tables → s ≡ t → r ≡ Some layout →
    layout_by (length t.tables) ≡ Some layout
layout_is n layout r s t by counted same is = sym (ap layout_by (counted ∙ ap (λ (x : Schema). length x.tables) same)) ∙ sym by ∙ is
