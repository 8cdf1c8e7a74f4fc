use Rattle.std.proofs.Common.{[], refl, inl}
use Rattle.run_responses.specs.Giving.{giving_of}
use Rattle.run_responses.proofs.Giving.{begins_none, gives_one, gives_part}
use Rattle.run_responses.proofs.sink.Responses+O+T.give.Goals as goal

pub returns-then-is_err-clause-gives : goal.returns-then-is_err-clause-gives
returns-then-is_err-clause-gives g c =
    gives_part (giving_of g.O.Write.contents c.args.self.now) c.args.id c.args.context.now [] [] _ (inl refl) refl
    (begins_none (g.O.Write.contents c.args.self.now.out.now)) refl refl refl

pub returns-in-Err-clause-gives : goal.returns-in-Err-clause-gives
returns-in-Err-clause-gives g c =
    let (list, text, some, are, begins) = c.in-Err.ensures.some in
    gives_part (giving_of g.O.Write.contents c.args.self.now) c.args.id c.args.context.now list text _ some are begins refl refl refl

pub returns-in_default-clause-gives : goal.returns-in_default-clause-gives
returns-in_default-clause-gives g c =
    let (text, are, appends) = c.in_default.ensures.all in
    let given = rw c.if-is_err.ensures.negation at c.push.ensures.items in
    gives_one (giving_of g.O.Write.contents c.args.self.now) c.args.id c.args.context.now text _ are appends given refl refl
