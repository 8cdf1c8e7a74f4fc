use Rattle.std.proofs.Common.{subst}
use Rattle.cli_encode.specs.Reading.{IsReading}
use Rattle.cli_encode.proofs.text.encoder_of.Goals as goal

pub returns-clause-read : goal.returns-clause-read
returns-clause-read c = subst (λ k. IsReading k c.args.text.now c.read_text.new.encoder c.in_ok-refusal.refusal) c.new-encoder.ensures.sized c.in_ok-refusal.ensures
