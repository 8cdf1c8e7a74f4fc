use Rattle.std.proofs.Common.{◌≡◌, ◌-◌, length}
use Rattle.std.specs.Io.KnownBytes.{Consumes}
use Rattle.cli_io.specs.Inputs.{unread}
use Rattle.cli_io.proofs.read.read_input.Given as goal

-- the bytes so far are those that the reader lost
abbrev pub invariant-loop-bytes : goal.invariant-loop-bytes
invariant-loop-bytes g l = record {
  taken : Consumes (unread g.R.Read.remaining l.fn.input) (unread g.R.Read.remaining l.input) l.bytes.items;
  room : length l.buf ≡ 4096;
}

abbrev pub decreases-loop-bytes : goal.decreases-loop-bytes
decreases-loop-bytes g l = 1048576 - l.input.reads
