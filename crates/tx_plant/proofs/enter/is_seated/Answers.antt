use Rattle.std.proofs.Common.{sym, ◌<◌, ◌≡◌, length, arith}
use Rattle.std.proofs.lemmas.Bool.Decides.{nat_tests}
use Rattle.tx_plant.proofs.Entering.{seated_is}
use Rattle.tx_plant.proofs.enter.is_seated.Goals as goal

pub returns-then-seat-id-clause-seated : goal.returns-then-seat-id-clause-seated
returns-then-seat-id-clause-seated c = λ t.
    let h : c.args.s < length c.args.seats.now.by_session.items = grind (arith, nat_tests, c.if-s-len.false, c.len.ensures) in
    let i : c.in-Some.seat.id ≡ c.args.id = grind (arith, nat_tests, c.if-seat-id.true) in
    seated_is c.args.seats.now.by_session.items c.args.s c.args.id c.index.result.now c.in-Some.seat c.is_none.result h c.index.ensures (sym c.in-Some.is) i
    c.is_none.ensures t
