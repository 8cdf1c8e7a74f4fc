-- What a refused open hands back, what a stop then leaves, and why it was refused.
use Rattle.std.specs.Prelude.{◌≡◌, ◌⊎◌, ⊤, ℕ, List}
use Rattle.sqlite_trees.specs.declared.store.Store.{Ghosts}
use Rattle.sqlite_trees.specs.Tree.{Trees}
use Rattle.sqlite_trees.specs.View.{doubt}
use Rattle.sqlite_catalog.specs.Listing.{IsSound}
use Rattle.store_base.specs.Making.{no_schema}
use Rattle.book_store.specs.Making.{IsNew}
use Rattle.book_store.specs.Queries.{IsSalted}
use Rattle.book_store.specs.Schema.{book_schema}
use Rattle.book_store.specs.declared.book.Left.{Left}
use Rattle.book_store.specs.declared.book.Left.TheVariants.{Closed, Open}
use Rattle.book_store.specs.declared.error.BookFileError.{BookFileError}
use Rattle.book_store.specs.declared.error.BookFileError.TheVariants.{Store, Failed, BadSalt, BadRow, NotABook}

module _ {S : Type 0} (g : Ghosts S) where
  -- 0 where the disk has returned what was written so far
  abbrev pub doubt_of : Left S → ℕ
  doubt_of (Open c) = doubt (g.view c.store).is_clean
  doubt_of (Closed s) = doubt (g.view s).is_clean

  -- what a stop then leaves of it
  abbrev pub leaves : Left S → Trees → Type 0
  leaves (Open c) = g.recovers c.store
  leaves (Closed s) = g.recovers s

  -- the database is as it was, or it was empty and the tables of a new book were made
  abbrev pub IsBeforeOrNew : S → Trees → List ℕ → Left S → Type 0
  IsBeforeOrNew old was salt left =
      doubt_of left ≡ 0 → (db : Trees) → leaves left db → g.recovers old db ⊎ (IsSound no_schema was × IsNew salt db)

abbrev pub IsStore : BookFileError → Type 0
IsStore (Store cause) = ⊤
IsStore _ = ⊥

-- An open names a bad salt only where the database is a book whose table `salt` is not as it is to be. It names no item, and
-- does not fail at an earlier call.
abbrev pub IsNaming : Trees → BookFileError → Type 0
IsNaming was BadSalt = IsSound book_schema was × (IsSalted (was 0) → ⊥)
IsNaming was NotABook = ⊤
IsNaming was (Store cause) = ⊤
IsNaming was Failed = ⊥
IsNaming was (BadRow id) = ⊥
