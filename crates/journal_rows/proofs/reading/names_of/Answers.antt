use Rattle.std.proofs.Common.{rules, ◌≡◌, ◌∙◌, ap}
use Rattle.sw_context.specs.Names.{is_name}
use Rattle.journal_rows.specs.Reads.{int_at}
use Rattle.journal_rows.proofs.ReadableRows.{member_named}
use Rattle.journal_rows.proofs.reading.names_of.Goals as goal

pub text_of-requires : goal.text_of-requires
text_of-requires c =
    let is : int_at c.row-item.result 0 ≡ c.args.id = search rules in
    ap is_name c.bytes_at.ensures
    ∙ member_named c.args.id c.args.members.now c.loop-row.row-index c.row-item.result c.loop-row-test.true c.requires c.row-item.is is
