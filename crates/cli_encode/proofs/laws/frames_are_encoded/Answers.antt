use Rattle.cli_encode.proofs.RoundTrips.{encoded_back}
use Rattle.cli_encode.proofs.laws.frames_are_encoded.Goals as goal

pub returns : goal.returns
returns c = encoded_back
