use Rattle.std.proofs.Common.{rules}
use Rattle.cli_graph.specs.Picture.{abort_entry}
use Rattle.cli_graph.proofs.Texts.{written_more}
use Rattle.cli_graph.proofs.paths.AbortStepsDisplay.fmt.Goals as goal

pub loop-index-preserved : goal.loop-index-preserved
loop-index-preserved g c = λ plain. let before = c.loop-index.invariant plain in
    written_more g.W.Write.write_str_gives (abort_entry c.args.self.now.form c.args.self.now.group) c.args.f.now c.loop-index.f c.write.new.self
    c.loop-index.index c.args.self.now.entries.now c.entry-item.result c.entry-item.result c.loop-index-test.true c.entry-item.is before
    (c.write.ensures.writes before.plain (search rules))
