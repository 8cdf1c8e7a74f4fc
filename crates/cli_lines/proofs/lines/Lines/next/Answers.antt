use Rattle.std.proofs.Common.{◌≡◌, ◌∙◌, ◌*◌, ◌+◌, ◌-◌, length, true, false, ap, arith, sym}
use Rattle.cli_lines.specs.Feeds.{has_line_feed}
use Rattle.cli_io.specs.Inputs.{unread}
use Rattle.cli_lines.specs.Lines.{room, to_come}
use Rattle.cli_lines.specs.Pieces.{left}
use Rattle.cli_lines.proofs.NextLines.{at_end, found, lengths, plain_more, taken_more, within}
use Rattle.cli_lines.proofs.lines.Lines.next.Goals as goal

pub loop-line-preserved : goal.loop-line-preserved
loop-line-preserved g c =
    let old = c.loop-line in
    let gives = c.in_ok-give.ensures.gives in
    let leaves = c.in_ok-give.ensures.leaves in
    let none : has_line_feed (left old.self.piece) ≡ false = sym c.in_ok-give.ensures.ends ∙ c.if-not-branch.true in
    let taken = taken_more (to_come g.R.Read.remaining c.args.self.now) (unread g.R.Read.remaining old.self.input)
    (to_come g.R.Read.remaining c.read_more.new.self) old.line.items (left old.self.piece) (left c.give.new.self) old.invariant.taken leaves
    c.in_ok-read_more.ensures.same in
    record {
      taken = rw gives taken;
      plain = rw gives (plain_more old.line.items (left old.self.piece) old.invariant.plain none);
      count = c.read_more.ensures.count ∙ old.invariant.count;
      few =
          let before = lengths old.line.items (left old.self.piece) (left c.give.new.self) leaves in
          let given = ap length gives in
          let few = c.read_more.ensures.few in
          let pieces = c.in_ok-read_more.ensures.pieces in
          let count = c.read_more.ensures.count in
          let sofar = old.invariant.few in
          omega arith;
      spare =
          let before = lengths old.line.items (left old.self.piece) (left c.give.new.self) leaves in
          let given = ap length gives in
          let few = c.read_more.ensures.few in
          let pieces = c.in_ok-read_more.ensures.pieces in
          let bounded = c.read_more.new.self.bounded in
          let spare = old.invariant.spare in
          omega arith;
      once = λ had. let has = (old.invariant.once had).1 in let both : true ≡ false = sym has ∙ none in cc;
    }

pub returns-then-not-branch-2-clause-next : goal.returns-then-not-branch-2-clause-next
returns-then-not-branch-2-clause-next g c =
    let old = c.loop-line in
    let gives = c.in_ok-give.ensures.gives in
    let leaves = c.in_ok-give.ensures.leaves in
    let none : has_line_feed (left old.self.piece) ≡ false = sym c.in_ok-give.ensures.ends ∙ c.if-not-branch.true in
    let taken = taken_more (to_come g.R.Read.remaining c.args.self.now) (unread g.R.Read.remaining old.self.input)
    (to_come g.R.Read.remaining c.read_more.new.self) old.line.items (left old.self.piece) (left c.give.new.self) old.invariant.taken leaves
    c.in_ok-read_more.ensures.same in
    let plain = plain_more old.line.items (left old.self.piece) old.invariant.plain none in
    rw (c.counted.ensures.piece, c.counted.ensures.input)
    (at_end (λ line. line.items) c.counted.result (to_come g.R.Read.remaining c.args.self.now) (to_come g.R.Read.remaining c.read_more.new.self)
    c.give.new.line.items c.counted.ensures.line
    (rw gives taken) (c.in_ok-read_more.ensures.end c.if-not-branch-2.true) (rw gives plain))

pub returns-clause-next : goal.returns-clause-next
returns-clause-next g c =
    let old = c.loop-line in
    let has : has_line_feed (left old.self.piece) ≡ true = sym c.in_ok-give.ensures.ends ∙ c.if-not-branch.false in
    rw (c.counted-2.ensures.piece, c.counted-2.ensures.input)
    (found (λ line. line.items) c.counted-2.result (to_come g.R.Read.remaining c.args.self.now) (unread g.R.Read.remaining old.self.input) old.line.items
    (left old.self.piece) c.give.new.line.items (left c.give.new.self) c.counted-2.ensures.line
    c.in_ok-give.ensures.gives c.in_ok-give.ensures.leaves old.invariant.taken old.invariant.plain has)

pub returns-then-not-branch-2-clause-room : goal.returns-then-not-branch-2-clause-room
returns-then-not-branch-2-clause-room g c =
    let old = c.loop-line in
    let before = lengths old.line.items (left old.self.piece) (left c.give.new.self) c.in_ok-give.ensures.leaves in
    let given = ap length c.in_ok-give.ensures.gives in
    let few = c.read_more.ensures.few in
    let pieces = c.in_ok-read_more.ensures.pieces in
    let bounded = c.read_more.new.self.bounded in
    let spare = old.invariant.spare in
    rw (c.counted.ensures.piece, c.counted.ensures.pieces)
    (within (λ line. line.items) c.counted.result c.give.new.line.items (room c.read_more.new.self) (room c.args.self.now) c.counted.ensures.line
    (omega arith))

pub returns-clause-room : goal.returns-clause-room
returns-clause-room g c =
    let old = c.loop-line in
    let before = lengths old.line.items (left old.self.piece) (left c.give.new.self) c.in_ok-give.ensures.leaves in
    let given = ap length c.in_ok-give.ensures.gives in
    let spare = old.invariant.spare in
    rw (c.counted-2.ensures.piece, c.counted-2.ensures.pieces)
    (within (λ line. line.items) c.counted-2.result c.give.new.line.items (4096 * (1048576 - old.self.pieces) + length (left c.give.new.self))
    (room c.args.self.now) c.counted-2.ensures.line (omega arith))
