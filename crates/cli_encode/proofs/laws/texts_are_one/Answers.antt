use Rattle.cli_encode.proofs.RoundTrips.{are_one}
use Rattle.cli_encode.proofs.laws.texts_are_one.Goals as goal

pub returns : goal.returns
returns c = are_one
