use Rattle.std.proofs.Common.{◌≡◌, ◌∷◌, [], ◌∙◌, false, is_some, sym}
use Rattle.run_responses.specs.Giving.{giving_of}
use Rattle.run_responses.proofs.Gave.{gave_flushed}
use Rattle.run_responses.proofs.sink.Responses+O+T.give_next.Goals as goal

pub returns-clause-gives : goal.returns-clause-gives
returns-clause-gives g c =
    let ok : is_some c.give.new.self.kept.fault ≡ false = sym c.is_some.ensures ∙ c.if-is_some.false in
    gave_flushed (giving_of g.O.Write.contents c.args.self.now) ((c.args.id, c.args.context.now) ∷ []) (giving_of g.O.Write.contents c.give.new.self)
    (giving_of g.O.Write.contents c.release.new.self) c.give.ensures.gives ok c.release.ensures.gives
