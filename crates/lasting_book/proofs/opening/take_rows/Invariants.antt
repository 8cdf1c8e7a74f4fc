use Rattle.std.proofs.Common.{◌≡◌, List, map, take}
use Rattle.book_store.specs.Lines.{Line}
use Rattle.book_store.specs.Queries.{shown_line}
use Rattle.lasting_book.specs.Tied.{AreBelow, AreKept, lines_in}
use Rattle.lasting_book.proofs.opening.take_rows.Given as goal

-- the lines of the rows so far are those of the items
abbrev pub invariant-loop-row : goal.invariant-loop-row
invariant-loop-row l = record {
  limit : l.days.limit ≡ l.fn.days.limit;
  below : AreBelow l.next l.days.items;
  kept : AreKept l.reach l.days.items;
  so_far : (ls : List Line) → l.rows ≡ map shown_line ls → lines_in l.reach l.days.items ≡ take l.row-index ls;
}
