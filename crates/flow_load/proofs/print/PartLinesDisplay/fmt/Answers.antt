use Rattle.std.proofs.Common.{rules}
use Rattle.flow_load.specs.Image.{part_text}
use Rattle.flow_load.proofs.LinesPrinted.{written_more}
use Rattle.flow_load.proofs.print.PartLinesDisplay.fmt.Goals as goal

pub loop-number-preserved : goal.loop-number-preserved
loop-number-preserved g c = λ plain. let before = c.loop-number.invariant plain in
    written_more g.W.Write.write_str_gives part_text c.args.f.now c.loop-number.f c.write.new.self c.loop-number.number c.args.self.now.0.now
    c.part-item.result c.part-item.result c.loop-number-test.true c.part-item.is before (c.write.ensures.writes before.plain (search rules))
