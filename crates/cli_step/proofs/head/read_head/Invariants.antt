use Rattle.std.proofs.Common.{◌+◌, ◌≤◌, length}
use Rattle.cli_lines.specs.Lines.{room, to_come}
use Rattle.cli_step.proofs.Gathering.{Gathered}
use Rattle.cli_step.proofs.head.read_head.Given as goal

abbrev pub invariant-loop-head : goal.invariant-loop-head
invariant-loop-head g l = record {
  gathered : Gathered l.has_file (to_come g.R.Read.remaining l.fn.lines) (to_come g.R.Read.remaining l.lines) l.head.items;
  few : room l.lines + length l.head.items ≤ room l.fn.lines;
}

abbrev pub decreases-loop-head : goal.decreases-loop-head
decreases-loop-head g l = room l.lines
