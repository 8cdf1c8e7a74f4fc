use Rattle.std.proofs.Common.{true}
use Rattle.sw_wire.specs.Writing.{WritesGiven}
use Rattle.sw_hosts.proofs.threads.HostThread.write_frames.Given as goal

abbrev pub invariant-loop : goal.invariant-loop
invariant-loop g l =
    WritesGiven g.S.FrameSource.gives l.fn.source l.source (g.W.Write.contents l.fn.writer) (g.W.Write.contents l.writer) true
