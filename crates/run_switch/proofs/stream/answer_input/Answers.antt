use Rattle.std.proofs.Common.{◌≡◌, ◌<◌, ◌≤◌, [], ◌++◌, length, drop, None, arith, ap}
use Rattle.sw_frame.specs.Feeds.{messages}
use Rattle.sw_frame.specs.Stream.{State}
use Rattle.run_switch.specs.Points.{point_of}
use Rattle.run_input.specs.Requests.{EndsAs, readings}
use Rattle.run_switch.proofs.Advancing.{advanced_frames, advanced_none, advanced_sends, stops_fresh, stops_on}
use Rattle.run_switch.proofs.Reporting.{for_answered}
use Rattle.run_switch.proofs.Rounds.{if_none, if_some}
use Rattle.run_input.proofs.Readings.{nothing_read, still_room}
use Rattle.run_switch.proofs.Stops.{halts_reads, halts_unread, on_err_of, toward_answering}
use Rattle.run_switch.proofs.stream.answer_input.Goals as goal

pub loop-init : goal.loop-init
loop-init g c = record {
  room = let l : c.in_ok-buf.buf.len ≡ 65536 = c.in_ok-buf.ensures.len in omega (arith, l, c.in_ok-buf.buf.ok.0);
  sound = ap (λ (s : State). s.failed) c.new-frames.ensures;
  messages = [];
  reads = nothing_read (g.R.Read.remaining c.args.input.now) c.new-frames.result.framer c.new-frames.ensures;
  serves = advanced_none _ None _ _;
  ready = c.requires.ready;
}

pub returns-in-Some-clause-serves : goal.returns-in-Some-clause-serves
returns-in-Some-clause-serves g c =
    let i = c.loop.invariant in
    let more = messages c.in_ok-messages.field-0.messages.items in
    let served = for_answered c.args.header more _ _ _ _ _ _ (rw c.deref.ensures.value at c.in_ok-answer_messages.ensures.serves) in (
      i.messages ++ more,
      record {
        left = g.R.Read.remaining c.read.new.input;
        state = c.read.new.self.framer;
        reads = c.in_ok-messages.ensures.reads (g.R.Read.remaining c.args.input.now) i.messages i.reads;
        ends = if_some (λ e. EndsAs e c.read.new.self.framer (g.R.Read.remaining c.read.new.input)) c.in_ok-messages.field-0.end c.in-Some.end c.in-Some.is
            c.in_ok-messages.ensures.ends;
      },
      advanced_frames c.args.header _ None i.messages more _ _ _ _ _ _ _ i.serves served,
    )

pub loop-preserved : goal.loop-preserved
loop-preserved g c =
    let i = c.loop.invariant in
    let more = messages c.in_ok-messages.field-0.messages.items in
    let served = for_answered c.args.header more _ _ _ _ _ _ (rw c.deref.ensures.value at c.in_ok-answer_messages.ensures.serves) in
    let len : length c.as_mut_slice.result.now ≡ c.loop.buf.len = c.as_mut_slice.ensures.len in
    let some : 0 < c.loop.buf.len = omega (arith, i.room, c.loop.buf.ok.0) in
    let le : c.loop.buf.len ≤ length c.read.new.buf = omega (arith, len, c.in_ok-messages.ensures.room) in
    let room = still_room c.loop.buf.len c.read.new.buf (drop (length c.read.new.buf) c.loop.buf.items) some le in
    record {
      room = room;
      sound = if_none _ c.in_ok-messages.field-0.end c.in_default.is c.in_ok-messages.ensures.goes_on;
      messages = i.messages ++ more;
      reads = c.in_ok-messages.ensures.reads (g.R.Read.remaining c.args.input.now) i.messages i.reads;
      serves = advanced_sends _ None (readings c.args.header (i.messages ++ more)) _ _ _ _ _ _ _ (advanced_frames c.args.header _ None i.messages more _ _ _ _ _ _ _ i.serves served)
          c.in_ok-send_between.ensures.sends;
      ready = c.in_ok-send_between.ensures.ready;
    }

pub returns-in_err-buf-clause-stops : goal.returns-in_err-buf-clause-stops
returns-in_err-buf-clause-stops g c = on_err_of c.from_residual.result (stops_fresh c.args.header _ None (g.R.Read.remaining c.args.input.now) c.new-frames.result.framer _
    c.new-frames.ensures)

pub returns-in_err-messages-clause-stops : goal.returns-in_err-messages-clause-stops
returns-in_err-messages-clause-stops g c =
    let i = c.loop.invariant in
    on_err_of c.from_residual-in_err-messages.result (stops_on c.args.header _ None (g.R.Read.remaining c.args.input.now) (g.R.Read.remaining c.loop.input) i.messages
    c.loop.frames.framer _ _ _ _ _ i.reads i.serves (halts_unread c.args.header None (g.R.Read.remaining c.loop.input) c.loop.frames.framer _ _))

pub returns-in_err-answer_messages-clause-stops : goal.returns-in_err-answer_messages-clause-stops
returns-in_err-answer_messages-clause-stops g c =
    let i = c.loop.invariant in
    let more = messages c.in_ok-messages.field-0.messages.items in
    let q = point_of g.S.Store c.loop.switch in
    let out = g.O.Write.contents c.loop.out in
    let end = g.O.Write.contents c.answer_messages.new.out in
    on_err_of c.from_residual-in_err-answer_messages.result (stops_on c.args.header _ None (g.R.Read.remaining c.args.input.now) (g.R.Read.remaining c.loop.input)
    i.messages c.loop.frames.framer _ _ _ _ _ i.reads i.serves
    (halts_reads c.args.header None (g.R.Read.remaining c.loop.input) (g.R.Read.remaining c.read.new.input) more c.loop.frames.framer c.read.new.self.framer q out end
    c.in_ok-messages.ensures.reads (toward_answering (readings c.args.header more) q out end (rw c.deref.ensures.value at c.in_err-answer_messages.ensures.halts))))

pub returns-in_err-send_between-clause-stops : goal.returns-in_err-send_between-clause-stops
returns-in_err-send_between-clause-stops g c =
    let i = c.loop.invariant in
    let more = messages c.in_ok-messages.field-0.messages.items in
    let served = for_answered c.args.header more _ _ _ _ _ _ (rw c.deref.ensures.value at c.in_ok-answer_messages.ensures.serves) in
    let left = g.R.Read.remaining c.read.new.input in
    let all = advanced_frames c.args.header _ None i.messages more _ _ _ _ _ _ _ i.serves served in
    on_err_of c.from_residual-in_err-send_between.result (stops_on c.args.header _ None (g.R.Read.remaining c.args.input.now) left (i.messages ++ more)
    c.read.new.self.framer _ _ _ _ _ (c.in_ok-messages.ensures.reads (g.R.Read.remaining c.args.input.now) i.messages i.reads) all
    (halts_unread c.args.header None left c.read.new.self.framer _ _))
