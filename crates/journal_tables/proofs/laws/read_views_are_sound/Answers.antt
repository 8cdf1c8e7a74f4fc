use Rattle.journal_tables.proofs.UniqueAdvices.{sound_from}
use Rattle.journal_tables.proofs.laws.read_views_are_sound.Goals as goal

pub returns : goal.returns
returns c = sound_from
