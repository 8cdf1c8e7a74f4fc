use Rattle.std.proofs.Common.{arith, length-drop}
use Rattle.std.proofs.lemmas.List.{take_rest}
use Rattle.std.proofs.KnownBytes.{Keeps-refl}
use Rattle.cli_io.proofs.Writing.{beginning_taken, written_more}
use Rattle.cli_io.proofs.write.write_whole.Goals as goal

pub loop-preserved : goal.loop-preserved
loop-preserved g c =
    let bytes = c.args.bytes.now in
    let done = c.loop.done in
    let n = c.in_ok-done.field-0 in
    let within = rw (take_rest bytes done) at c.in_ok-done.ensures.within in
    let written = rw (take_rest bytes done) at c.in_ok-done.ensures.written in
    record {
      within = omega (arith, within, length-drop done bytes, c.loop.invariant.within);
      written = written_more (g.W.Write.contents c.args.out.now) (g.W.Write.contents c.loop.out) (g.W.Write.contents c.write_some.new.out) done n bytes
          c.loop.invariant.written written;
    }

pub returns-in_err-done-clause-beginning : goal.returns-in_err-done-clause-beginning
returns-in_err-done-clause-beginning g c =
    beginning_taken (g.W.Write.contents c.args.out.now) (g.W.Write.contents c.loop.out) (g.W.Write.contents c.write_some.new.out) c.loop.done
    c.args.bytes.now c.loop.invariant.written c.in_err-done.ensures.failed

pub returns-clause-beginning : goal.returns-clause-beginning
returns-clause-beginning g c =
    beginning_taken (g.W.Write.contents c.args.out.now) (g.W.Write.contents c.loop.out) (g.W.Write.contents c.loop.out) c.loop.done c.args.bytes.now
    c.loop.invariant.written (Keeps-refl _)
