use Rattle.std.proofs.Common.{rules}
use Rattle.cli_script.proofs.Spelled.{some_group}
use Rattle.cli_script.proofs.group.read_flow.Goals as goal

pub returns : goal.returns
returns c =
    let answers = rw (c.first_and_rest.ensures.word, c.first_and_rest.ensures.rest) at c.read_group.ensures in
    rw (some_group c.args.rest.now (search rules)) answers
