-- What a call makes of the file.
use Rattle.std.specs.Prelude.{◌≡◌, ◌≤◌, ◌⊎◌, ℕ, List, false}
use Rattle.sqlite_trees.specs.declared.store.Store.{Ghosts}
use Rattle.sqlite_trees.specs.View.{doubt}
use Rattle.book_store.specs.Kept.{IsCleanBook, Kept, Tables, book, changed}
use Rattle.book_store.specs.Lines.{Line}

module _ {S : Type 0} (g : Ghosts S) where
  -- what a stop leaves of the file is what it has now
  abbrev pub IsLasting : Kept S → Type 0
  IsLasting file = (salt : List ℕ) (t : Tables) → (book g file).may_leave salt t → t ≡ (book g file).tables

  -- the file was not touched, or a stop leaves what it has now, if the disk returns what was written
  abbrev pub Lasts : Kept S → Kept S → Type 0
  Lasts old new = (new ≡ old) ⊎ (IsCleanBook (book g new) → IsLasting new)

  -- a change was made
  pub record IsChanged (change : List Line → List Line) (old new : Kept S) : Type 0 where
    pub salt : new.salt ≡ old.salt
    pub clean : doubt (book g old).is_clean ≤ doubt (book g new).is_clean
    pub fine : old.failed ≡ false
    pub wrote : IsCleanBook (book g new) → (book g new).tables ≡ changed change (book g old).tables
    pub lasts : IsCleanBook (book g new) → IsLasting new

  -- nothing was changed, or the file has failed
  pub record IsKeptOrFailed (old new : Kept S) : Type 0 where
    pub salt : new.salt ≡ old.salt
    pub clean : doubt (book g old).is_clean ≤ doubt (book g new).is_clean
    pub fine : new.failed ≡ false → old.failed ≡ false
    pub same : IsCleanBook (book g new) → new.failed ≡ false → (book g new).tables ≡ (book g old).tables
