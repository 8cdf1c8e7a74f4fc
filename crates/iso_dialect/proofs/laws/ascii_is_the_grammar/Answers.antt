use Rattle.iso_dialect.proofs.AsciiProfile.{reads_as_today, spells_today, today_spells}
use Rattle.iso_dialect.proofs.laws.ascii_is_the_grammar.Goals as goal

pub returns-clause-reads : goal.returns-clause-reads
returns-clause-reads c = reads_as_today

pub returns-clause-spells : goal.returns-clause-spells
returns-clause-spells c = spells_today

pub returns-clause-spelled : goal.returns-clause-spelled
returns-clause-spelled c = today_spells
