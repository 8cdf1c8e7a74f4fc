use Rattle.std.proofs.Common.{arith, append-nil}
use Rattle.std.proofs.lemmas.Map.Text.{text_keys}
use Rattle.cli_script.proofs.queues.Queues.push.Goals as goal

pub returns : goal.returns
returns g c = λ q. grind (arith, text_keys, append-nil)
