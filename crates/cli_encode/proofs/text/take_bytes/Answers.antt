use Rattle.cli_encode.specs.Lines.{plain_line}
use Rattle.cli_encode.proofs.Readings.{bytes_taken}
use Rattle.cli_encode.proofs.text.take_bytes.Goals as goal

pub returns-in-Some-clause-taken : goal.returns-in-Some-clause-taken
returns-in-Some-clause-taken c = bytes_taken c.take.result c.args.encoder.now c.take.new.self (plain_line c.in-Some.meaning) c.args.line.now
    c.in-Some.ensures.1 c.in-Some.ensures.0 c.take.ensures.taken
