use Rattle.std.proofs.Common.{◌<◌, length}
use Rattle.run_recode.specs.Readers.{Steps}
use Rattle.run_recode.proofs.reader.ReadSide.read.Given as goal

abbrev pub invariant-loop : goal.invariant-loop
invariant-loop g l = record {
  steps : Steps (g.R.Read.remaining l.fn.inner) l.fn.self (g.R.Read.remaining l.inner) l.self;
  room : 0 < length l.buf;
}
