use Rattle.sw_seating.proofs.Numbered.{numbered_parts}
use Rattle.sw_seating.proofs.laws.participants_are_numbered.Goals as goal

pub returns : goal.returns
returns c = numbered_parts
