use Rattle.run_responses.specs.Giving.{giving_of}
use Rattle.run_responses.proofs.Giving.{gives_none}
use Rattle.run_responses.proofs.sink.Responses+O+T.flush.Goals as goal

pub returns-in-ByEnd-clause-gives : goal.returns-in-ByEnd-clause-gives
returns-in-ByEnd-clause-gives g c = λ _. gives_none (giving_of g.O.Write.contents c.args.self.now)
