use Rattle.cli_encode.proofs.RoundTrips.{decoded_back}
use Rattle.cli_encode.proofs.laws.texts_are_decoded.Goals as goal

pub returns : goal.returns
returns c = decoded_back
