use Rattle.std.proofs.Common.{subst}
use Rattle.std.specs.Io.KnownBytes.{Appends}
use Rattle.cli_recode.proofs.stream.write_piece.Goals as goal

pub returns-clause-written : goal.returns-clause-written
returns-clause-written g c = record {
  out = c.in_ok-frames.frames.items;
  recoded = c.in_ok-frames.ensures.recoded;
  written = subst (Appends (g.O.Write.contents c.args.out.now) (g.O.Write.contents c.write_out.new.out)) c.deref.ensures.value
      c.in_ok-write_out.ensures.written;
  quiet = c.in_ok-frames.ensures.quiet;
}
