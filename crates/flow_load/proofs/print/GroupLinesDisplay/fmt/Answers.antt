use Rattle.std.proofs.Common.{rules}
use Rattle.flow_load.specs.Image.{group_text}
use Rattle.flow_load.proofs.LinesPrinted.{written_more}
use Rattle.flow_load.proofs.print.GroupLinesDisplay.fmt.Goals as goal

pub loop-number-preserved : goal.loop-number-preserved
loop-number-preserved g c = λ plain. let before = c.loop-number.invariant plain in
    written_more g.W.Write.write_str_gives group_text c.args.f.now c.loop-number.f c.write.new.self c.loop-number.number c.args.self.now.0.now
    c.start-item.result c.start-item.result c.loop-number-test.true c.start-item.is before (c.write.ensures.writes before.plain (search rules))
