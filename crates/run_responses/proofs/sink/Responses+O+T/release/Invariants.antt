use Rattle.std.proofs.Common.{◌≡◌, []}
use Rattle.run_responses.specs.Giving.{Gives, giving_of}
use Rattle.run_responses.proofs.sink.Responses+O+T.release.Given as goal

abbrev pub invariant-loop : goal.invariant-loop
invariant-loop g l =
    (l.self.out.ghost_name ≡ l.initial.self.out.ghost_name)
    × Gives (giving_of g.O.Write.contents l.initial.self) [] (giving_of g.O.Write.contents l.self)
