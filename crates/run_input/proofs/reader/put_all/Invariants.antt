use Rattle.std.proofs.Common.{◌≡◌, ◌<◌, [], false, length}
use Rattle.run_input.specs.Arrivals.{CameSo}
use Rattle.run_input.proofs.reader.put_all.Given as goal

abbrev pub invariant-loop : goal.invariant-loop
invariant-loop g l = record {
  own : l.putter.intake ≡ l.queue.intake.id;
  room : 0 < length l.buf.items;
  sound : l.frames.framer.failed ≡ false;
  so : CameSo g.B.Input.header g.B.Input.input (g.R.Read.remaining l.input) l.frames.framer l.putter.passed [];
}
