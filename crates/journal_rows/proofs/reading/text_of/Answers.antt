use Rattle.sw_context.proofs.NameLaws.{name-utf8}
use Rattle.journal_rows.proofs.reading.text_of.Goals as goal

-- a name is a text
pub unreachable-requires : goal.unreachable-requires
unreachable-requires c = c.in-Err.ensures.cases.0 (name-utf8 c.args.name.now c.requires)
