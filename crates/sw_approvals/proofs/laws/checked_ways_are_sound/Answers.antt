use Rattle.sw_approvals.proofs.Checked.{sound}
use Rattle.sw_approvals.proofs.laws.checked_ways_are_sound.Goals as goal

pub returns : goal.returns
returns c = λ f s main es way checked force queries is_main through stops. sound f s main es way checked force queries is_main through stops
