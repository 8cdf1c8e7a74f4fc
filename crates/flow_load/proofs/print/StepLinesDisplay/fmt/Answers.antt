use Rattle.std.proofs.Common.{refl, get_or, rules}
use Rattle.flow_asm.specs.declared.code.Step.TheVariants.{Call}
use Rattle.flow_load.specs.Image.{step_text}
use Rattle.flow_load.proofs.LinesPrinted.{written_more}
use Rattle.flow_load.proofs.print.StepLinesDisplay.fmt.Goals as goal

pub loop-number-preserved : goal.loop-number-preserved
loop-number-preserved g c = λ plain. let before = c.loop-number.invariant plain in
    written_more g.W.Write.write_str_gives step_text c.args.f.now c.loop-number.f c.write.new.self c.loop-number.number c.args.self.now.0.now
    (get_or c.args.self.now.0.now c.loop-number.number (Call 0)) (Call 0) c.loop-number-test.true refl before
    (c.write.ensures.writes before.plain (search rules))
