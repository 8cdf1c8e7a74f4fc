use Rattle.std.proofs.Common.{rules}
use Rattle.cli_graph.specs.Picture.{entry_text}
use Rattle.cli_graph.proofs.Texts.{written_more}
use Rattle.cli_graph.proofs.nodes.EntryNodesDisplay.fmt.Goals as goal

pub loop-index-preserved : goal.loop-index-preserved
loop-index-preserved g c = λ plain. let before = c.loop-index.invariant plain in
    written_more g.W.Write.write_str_gives (entry_text c.args.self.now.form c.args.self.now.group) c.args.f.now c.loop-index.f c.write.new.self
    c.loop-index.index c.args.self.now.entries.now c.entry-item.result c.entry-item.result c.loop-index-test.true c.entry-item.is before
    (c.write.ensures.writes before.plain (search rules))
