use Rattle.std.proofs.Common.{refl}
use Rattle.cli_recode.specs.Progress.{Moment}
use Rattle.cli_recode.proofs.Streams.{ended, quiet_end, started}
use Rattle.cli_recode.proofs.stream.recode_by.Goals as goal

pub loop-recoder-init : goal.loop-recoder-init
loop-recoder-init g c = record {
  so_far = started c.args.form c.args.recoding.now _ c.new-recoder.result c.new-recoder.ensures.framer c.new-recoder.ensures.refused;
  room = refl;
}

pub returns-then-not-more-clause-recoded : goal.returns-then-not-more-clause-recoded
returns-then-not-more-clause-recoded g c =
    let t = c.in_ok-more.ensures.goes_on in
    let first : Moment = record {
      unread = g.R.Read.remaining c.args.input.now.reader;
      written = g.O.Write.contents c.args.out.now;
      reported = g.E.Write.contents c.args.err.now;
    } in
    ended c.args.form c.args.recoding.now first _ c.recode_piece.new.recoder c.finish.result
    (t.0 c.args.form first c.loop-recoder.invariant.so_far) (t.1 c.if-not-more.true) c.finish.ensures.refused

pub returns-then-not-more-clause-quiet : goal.returns-then-not-more-clause-quiet
returns-then-not-more-clause-quiet g c =
    let t = c.in_ok-more.ensures.goes_on in
    let first : Moment = record {
      unread = g.R.Read.remaining c.args.input.now.reader;
      written = g.O.Write.contents c.args.out.now;
      reported = g.E.Write.contents c.args.err.now;
    } in
    quiet_end c.args.form c.args.recoding.now first _ c.recode_piece.new.recoder c.finish.result _
    (t.0 c.args.form first c.loop-recoder.invariant.so_far) c.finish.ensures.refused c.finish.ensures.quiet
