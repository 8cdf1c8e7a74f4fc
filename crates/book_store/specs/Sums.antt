-- What putting, reversing and forgetting make of the sums.
use Rattle.std.specs.Prelude.{◌≡◌, ◌+ℤ◌, ◌≤ℤ◌, ℕ, ℤ, pos, true, false, if◌then◌else◌, List, Some, None}
use Rattle.std.specs.List.{list_any}
use Rattle.sqlite_keyed.specs.Keyed.{IsKeyedBy}
use Rattle.book_store.specs.Changes.{forgotten, reversed}
use Rattle.book_store.specs.Lines.{Line, has_id, with_line}
use Rattle.book_store.specs.Queries.{counts, last_of, of_request, open_id, used}

-- what an item adds to what a card has used in a day
abbrev pub share : List ℕ → ℤ → Line → ℤ
share card day l = if counts card day l then l.amount else pos 0

-- a new item adds its share, and one whose id is there changes nothing
pub record PutAdds : Type 0 where
  pub adds : (card : List ℕ) (day : ℤ) (new : Line) (lines : List Line) → list_any (has_id new.id) lines ≡ false
      → used card day (with_line new lines) ≡ share card day new +ℤ used card day lines
  pub again : (new : Line) (lines : List Line) → list_any (has_id new.id) lines ≡ true → with_line new lines ≡ lines

-- a reversal takes away the share of the item that it marks, and otherwise changes nothing
pub record ReversalTakes : Type 0 where
  pub takes : (card : List ℕ) (day : ℤ) (request : List ℕ) (l : Line) (lines : List Line) → IsKeyedBy (λ (m : Line). m.id) lines
      → last_of (of_request request lines) ≡ Some l → l.reversed ≡ pos 0
      → share card day l +ℤ used card day (reversed request lines) ≡ used card day lines
  pub none : (request : List ℕ) (lines : List Line) → open_id (of_request request lines) ≡ None → reversed request lines ≡ lines

-- forgetting days before one changes no sum of that day or a later one
abbrev pub ForgettingKeeps : Type 0
ForgettingKeeps = (card : List ℕ) (before day most : ℤ) (lines : List Line) → before ≤ℤ day
    → used card day (forgotten before most lines) ≡ used card day lines
