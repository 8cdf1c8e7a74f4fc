use Rattle.std.proofs.Common.{◌≡◌, ◌≤◌, ◌+◌, ◌*◌, ◌-◌, length, false, true}
use Rattle.std.specs.Io.KnownBytes.{Consumes}
use Rattle.cli_lines.specs.Feeds.{has_line_feed}
use Rattle.cli_lines.specs.Lines.{has_line, lines_given, reads_for, room, to_come}
use Rattle.cli_lines.specs.Pieces.{left}
use Rattle.cli_lines.proofs.lines.Lines.next.Given as goal

-- the line has the bytes that were taken, and no line feed; a second read is made only where no line was read already
abbrev pub invariant-loop-line : goal.invariant-loop-line
invariant-loop-line g l = record {
  taken : Consumes (to_come g.R.Read.remaining l.initial.self) (to_come g.R.Read.remaining l.self) l.line.items;
  plain : has_line_feed l.line.items ≡ false;
  count : lines_given l.self ≡ lines_given l.initial.self;
  few : l.self.count + length l.line.items + length (left l.self.piece) ≤ 4096 * l.self.pieces;
  spare : room l.self + length l.line.items ≤ room l.initial.self;
  once : has_line l.initial.self ≡ true → (reads_for l.self ≡ reads_for l.initial.self) × (has_line l.self ≡ true);
}

abbrev pub decreases-loop-line : goal.decreases-loop-line
decreases-loop-line g l = 1048576 - l.self.pieces
