use Rattle.iso_mask.proofs.Masks.{number_same}
use Rattle.iso_mask.proofs.laws.masked_numbers_hide.Goals as goal

pub returns : goal.returns
returns c = number_same
