-- What a statement makes of a book's tables.
use Rattle.std.specs.Prelude.{◌≡◌, ℕ, pos, List, [], ◌∷◌}
use Rattle.sqlite.specs.Effect.{Database}
use Rattle.sqlite.specs.declared.types.Value.TheVariants.{Null, Int, Blob}
use Rattle.sqlite_trees.specs.Tree.{Trees, put_row}
use Rattle.sqlite_value.specs.Order.{Row}
use Rattle.store_base.specs.Tables.{IsKept}
use Rattle.book_store.specs.Schema.{book_schema}
use Rattle.book_store.specs.Lines.{Line, lines_of}

-- a book
abbrev pub IsBook : Database → Type 0
IsBook = IsKept book_schema

-- this change was made to the items, and the salt is as it was
pub record Edits (change : List Line → List Line) (old new : Trees) : Type 0 where
  pub lines : lines_of new ≡ change (lines_of old)
  pub salt : new 0 ≡ old 0

-- the row of `salt` that has the salt
abbrev pub salt_row : List ℕ → Row
salt_row bytes = Int (pos 1) ∷ Null ∷ Blob bytes ∷ []

-- the salt was put, and the items are as they were
pub record PutsSalt (bytes : List ℕ) (old new : Trees) : Type 0 where
  pub salt : new 0 ≡ put_row (salt_row bytes) (old 0)
  pub rows : new 1 ≡ old 1
