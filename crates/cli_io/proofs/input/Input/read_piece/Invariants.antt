use Rattle.std.proofs.Common.{◌-◌, ◌≤◌, []}
use Rattle.std.specs.Io.KnownBytes.{Consumes}
use Rattle.cli_io.proofs.input.Input.read_piece.Given as goal

-- the reads so far were interrupted, and took nothing
abbrev pub invariant-loop-self : goal.invariant-loop-self
invariant-loop-self g l = record {
  nothing : Consumes (g.R.Read.remaining l.initial.self.reader) (g.R.Read.remaining l.self.reader) [];
  counted : l.initial.self.reads ≤ l.self.reads;
}

abbrev pub decreases-loop-self : goal.decreases-loop-self
decreases-loop-self g l = 1048576 - l.self.reads
