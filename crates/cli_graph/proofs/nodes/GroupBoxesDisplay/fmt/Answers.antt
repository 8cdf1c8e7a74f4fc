use Rattle.std.proofs.Common.{rules}
use Rattle.cli_graph.specs.Picture.{group_text}
use Rattle.cli_graph.proofs.Texts.{written_more}
use Rattle.cli_graph.proofs.nodes.GroupBoxesDisplay.fmt.Goals as goal

pub loop-number-preserved : goal.loop-number-preserved
loop-number-preserved g c = λ plain. let before = c.loop-number.invariant plain in
    written_more g.W.Write.write_str_gives (group_text c.args.self.now.form) c.args.f.now c.loop-number.f c.write.new.self c.loop-number.number
    c.args.self.now.groups.now c.group-item.result c.group-item.result c.loop-number-test.true c.group-item.is before
    (c.write.ensures.writes before.plain (search rules))
