-- What a refused open hands back, and what a stop then leaves.
use Rattle.std.specs.Prelude.{◌≡◌, ◌⊎◌, ℕ, None}
use Rattle.sqlite_trees.specs.declared.store.Store.{Ghosts}
use Rattle.sqlite_trees.specs.Tree.{Trees}
use Rattle.sqlite_trees.specs.View.{doubt}
use Rattle.journal_rows.specs.Tables.{first_tables_of, tables_of}
use Rattle.journal_rows.specs.Convert.{converted}
use Rattle.journal_rows.specs.Faults.{IsFaultAs}
use Rattle.journal_rows.specs.declared.layout.Layout.TheVariants.{First}
use Rattle.journal_store.specs.declared.journal.Left.{Left}
use Rattle.journal_store.specs.declared.journal.Left.TheVariants.{Closed, Open}
use Rattle.journal_store.specs.Making.{new_tables}

module _ {S : Type 0} (g : Ghosts S) where
  -- 0 where the disk has returned what was written so far
  abbrev pub doubt_of : Left S → ℕ
  doubt_of (Open c) = doubt (g.view c.store).is_clean
  doubt_of (Closed s) = doubt (g.view s).is_clean

  -- what a stop then leaves of it
  abbrev pub leaves : Left S → Trees → Type 0
  leaves (Open c) = g.recovers c.store
  leaves (Closed s) = g.recovers s

  -- the tables are as they were, or they have been made, or those of layout 1 have been converted
  abbrev pub IsBeforeOrMade : S → Trees → Left S → Type 0
  IsBeforeOrMade old was left =
      doubt_of left ≡ 0 → (db : Trees) → leaves left db
      → g.recovers old db ⊎ ((tables_of db ≡ new_tables) ⊎ (IsFaultAs First (first_tables_of was) None × (tables_of db ≡ converted (first_tables_of was))))
