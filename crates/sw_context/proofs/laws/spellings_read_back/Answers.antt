use Rattle.sw_context.proofs.SpellingLaws.{reads-back}
use Rattle.sw_context.proofs.laws.spellings_read_back.Goals as goal

pub returns : goal.returns
returns c = reads-back
