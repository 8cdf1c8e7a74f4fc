use Rattle.std.proofs.Common.{true, false, subst}
use Rattle.sw_wire.specs.Writing.{WritesGiven}
use Rattle.sw_wire.proofs.Writing.{given_none, given_then}
use Rattle.sw_hosts.proofs.threads.HostThread.write_frames.Goals as goal

pub loop-init : goal.loop-init
loop-init g c = given_none g.S.FrameSource.gives c.args.source.now (g.W.Write.contents c.args.writer.now) true

pub loop-preserved : goal.loop-preserved
loop-preserved g c =
    let turn = subst (WritesGiven g.S.FrameSource.gives c.loop.source c.take_turn.new.source (g.W.Write.contents c.loop.writer)
    (g.W.Write.contents c.take_turn.new.writer)) c.if-not-take_turn.false c.take_turn.ensures in
    given_then g.S.FrameSource.gives c.args.source.now c.loop.source c.take_turn.new.source (g.W.Write.contents c.args.writer.now)
    (g.W.Write.contents c.loop.writer) (g.W.Write.contents c.take_turn.new.writer) true c.loop.invariant turn

pub returns-then-not-take_turn : goal.returns-then-not-take_turn
returns-then-not-take_turn g c =
    let turn = subst (WritesGiven g.S.FrameSource.gives c.loop.source c.take_turn.new.source (g.W.Write.contents c.loop.writer)
    (g.W.Write.contents c.take_turn.new.writer)) c.if-not-take_turn.true c.take_turn.ensures in
    given_then g.S.FrameSource.gives c.args.source.now c.loop.source c.take_turn.new.source (g.W.Write.contents c.args.writer.now)
    (g.W.Write.contents c.loop.writer) (g.W.Write.contents c.take_turn.new.writer) false c.loop.invariant turn
