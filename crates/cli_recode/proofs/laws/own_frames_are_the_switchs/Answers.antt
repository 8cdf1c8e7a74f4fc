use Rattle.cli_recode.proofs.Frames.{own_frames}
use Rattle.cli_recode.proofs.laws.own_frames_are_the_switchs.Goals as goal

pub returns : goal.returns
returns c = λ text message p. own_frames text message p
