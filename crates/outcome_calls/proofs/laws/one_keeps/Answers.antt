use Rattle.outcome_calls.proofs.Trails.{opened, moved, lawful}
use Rattle.outcome_calls.proofs.laws.one_keeps.Goals as goal

pub returns : goal.returns
returns c = record { opened = opened; moved = moved; lawful = lawful }
