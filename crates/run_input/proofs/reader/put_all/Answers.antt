use Rattle.std.proofs.Common.{◌≡◌, ◌<◌, ◌≤◌, [], ap, arith, drop, length}
use Rattle.sw_frame.specs.Feeds.{messages}
use Rattle.sw_frame.specs.Stream.{State}
use Rattle.run_input.proofs.Comings.{came_ended, came_refused, so_begins, so_read}
use Rattle.run_input.proofs.Readings.{still_room}
use Rattle.run_input.proofs.reader.put_all.Goals as goal

pub returns-in_err-buf-clause-ends : goal.returns-in_err-buf-clause-ends
returns-in_err-buf-clause-ends g c =
    let left = g.R.Read.remaining c.args.input in
    came_refused g.B.Input.header g.B.Input.input left c.new-frames.result.framer c.args.putter.now.passed [] c.from_residual.result c.from_residual.ensures.0
    (so_begins g.B.Input.header g.B.Input.input left c.new-frames.result.framer c.args.putter.now.passed c.requires.input c.new-frames.ensures c.requires.none)

pub returns-in_err-messages-clause-ends : goal.returns-in_err-messages-clause-ends
returns-in_err-messages-clause-ends g c =
    came_refused g.B.Input.header g.B.Input.input (g.R.Read.remaining c.loop.input) c.loop.frames.framer c.loop.putter.passed [] c.from_residual-in_err-messages.result
    c.from_residual-in_err-messages.ensures.0 c.loop.invariant.so

pub returns-in_err-put_messages-clause-ends : goal.returns-in_err-put_messages-clause-ends
returns-in_err-put_messages-clause-ends g c =
    let left = g.R.Read.remaining c.read.new.input in
    let s = c.read.new.self.framer in
    let so = so_read g.B.Input.header g.B.Input.input (g.R.Read.remaining c.loop.input) left c.loop.frames.framer s c.loop.putter.passed
    (messages c.in_ok-messages.field-0.messages.items) c.loop.invariant.so c.in_ok-messages.ensures.reads in
    let some = c.put_messages.ensures.some left s (rw c.deref.ensures.value so) in
    came_refused g.B.Input.header g.B.Input.input left s c.put_messages.new.putter.passed some.0 c.from_residual-in_err-put_messages.result
    c.from_residual-in_err-put_messages.ensures.0 some.1

pub returns-in-Some-end-clause-ends : goal.returns-in-Some-end-clause-ends
returns-in-Some-end-clause-ends g c =
    let left = g.R.Read.remaining c.read.new.input in
    let s = c.read.new.self.framer in
    let so = so_read g.B.Input.header g.B.Input.input (g.R.Read.remaining c.loop.input) left c.loop.frames.framer s c.loop.putter.passed
    (messages c.in_ok-messages.field-0.messages.items) c.loop.invariant.so c.in_ok-messages.ensures.reads in
    came_ended g.B.Input.header g.B.Input.input left s c.put_messages.new.putter.passed c.in-Some-end.end
    (c.in_ok-put_messages.ensures.so left s (rw c.deref.ensures.value so)) (rw c.in-Some-end.is at c.in_ok-messages.ensures.ends)

pub put_messages-requires-clause-so : goal.put_messages-requires-clause-so
put_messages-requires-clause-so g c =
    let left = g.R.Read.remaining c.read.new.input in
    let so = so_read g.B.Input.header g.B.Input.input (g.R.Read.remaining c.loop.input) left c.loop.frames.framer c.read.new.self.framer c.loop.putter.passed
    (messages c.in_ok-messages.field-0.messages.items) c.loop.invariant.so c.in_ok-messages.ensures.reads in
    (left, c.read.new.self.framer, rw c.deref.ensures.value so)

pub loop-init : goal.loop-init
loop-init g c = record {
  own = c.requires.own;
  room = let l : c.in_ok-buf.buf.len ≡ 65536 = c.in_ok-buf.ensures.len in omega (arith, l, c.in_ok-buf.buf.ok.0);
  sound = ap (λ (s : State). s.failed) c.new-frames.ensures;
  so = so_begins g.B.Input.header g.B.Input.input (g.R.Read.remaining c.args.input) c.new-frames.result.framer c.args.putter.now.passed c.requires.input
      c.new-frames.ensures c.requires.none;
}

pub loop-preserved : goal.loop-preserved
loop-preserved g c =
    let left = g.R.Read.remaining c.read.new.input in
    let s = c.read.new.self.framer in
    let so = so_read g.B.Input.header g.B.Input.input (g.R.Read.remaining c.loop.input) left c.loop.frames.framer s c.loop.putter.passed
    (messages c.in_ok-messages.field-0.messages.items) c.loop.invariant.so c.in_ok-messages.ensures.reads in
    let len : length c.as_mut_slice.result.now ≡ c.loop.buf.len = c.as_mut_slice.ensures.len in
    let some : 0 < c.loop.buf.len = omega (arith, c.loop.invariant.room, c.loop.buf.ok.0) in
    let le : c.loop.buf.len ≤ length c.read.new.buf = omega (arith, len, c.in_ok-messages.ensures.room) in
    record {
      own = c.put_messages.ensures.own;
      room = still_room c.loop.buf.len c.read.new.buf (drop (length c.read.new.buf) c.loop.buf.items) some le;
      sound = rw c.in_default.is at c.in_ok-messages.ensures.goes_on;
      so = c.in_ok-put_messages.ensures.so left s (rw c.deref.ensures.value so);
    }
