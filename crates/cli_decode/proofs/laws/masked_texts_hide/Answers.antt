use Rattle.cli_decode.proofs.Masks.{texts_hide}
use Rattle.cli_decode.proofs.laws.masked_texts_hide.Goals as goal

pub returns : goal.returns
returns c = texts_hide
