use Rattle.std.proofs.Common.{true, false}
use Rattle.sw_wire.proofs.Writing.{given_none, writes_none}
use Rattle.sw_hosts.proofs.Turns.{turn_frame, turn_none}
use Rattle.sw_hosts.proofs.threads.HostThread.take_turn.Goals as goal

pub returns-in-GivesUp : goal.returns-in-GivesUp
returns-in-GivesUp g c = given_none g.S.FrameSource.gives c.args.source.now (g.W.Write.contents c.args.writer.now) false

pub returns-in-Some : goal.returns-in-Some
returns-in-Some g c = turn_frame g.S.FrameSource.gives c.args.source.now c.next.new.self c.now-now.result.micros c.next.result c.in-Some.frame
    (g.W.Write.contents c.args.writer.now) (g.W.Write.contents c.write_frame.new.writer) c.write_frame.result
    c.in-Some.is c.next.ensures.given c.next.ensures.timely c.write_frame.ensures

pub returns-in-Tests : goal.returns-in-Tests
returns-in-Tests g c = turn_none g.S.FrameSource.gives c.args.source.now c.next.new.self c.now-now.result.micros c.next.result
    (g.W.Write.contents c.args.writer.now) (g.W.Write.contents c.write_test.new.writer) c.write_test.result
    c.in-None.is c.next.ensures.given c.write_test.ensures

pub returns-in-Rests : goal.returns-in-Rests
returns-in-Rests g c = turn_none g.S.FrameSource.gives c.args.source.now c.next.new.self c.now-now.result.micros c.next.result
    (g.W.Write.contents c.args.writer.now) (g.W.Write.contents c.args.writer.now) true
    c.in-None.is c.next.ensures.given (writes_none (g.W.Write.contents c.args.writer.now) true)

pub returns-in-GivesUp-duty : goal.returns-in-GivesUp-duty
returns-in-GivesUp-duty g c = turn_none g.S.FrameSource.gives c.args.source.now c.next.new.self c.now-now.result.micros c.next.result
    (g.W.Write.contents c.args.writer.now) (g.W.Write.contents c.args.writer.now) true
    c.in-None.is c.next.ensures.given (writes_none (g.W.Write.contents c.args.writer.now) true)
