use Rattle.std.proofs.Common.{◌<◌, arith, inr, length}
use Rattle.std.proofs.lemmas.Bool.Decides.{nat_tests}
use Rattle.run_switch.proofs.PassingOver.{framed_back}
use Rattle.run_switch.proofs.Stops.{on_err_of}
use Rattle.run_switch.proofs.passing.give_back.Goals as goal

pub returns-in_err-write_out-clause-stops : goal.returns-in_err-write_out-clause-stops
returns-in_err-write_out-clause-stops g c =
    let some : 0 < length c.args.header.now = grind (arith, nat_tests, c.if-is_empty.ensures) in
    on_err_of c.from_residual-in_err-write_out.result (
      c.deref.result.now,
      inr (framed_back c.args.header.now c.deref.result.now some (rw c.deref.ensures.value c.in_ok-text.ensures)),
      c.in_err-write_out.ensures.beginning,
    )

pub returns-clause-gives : goal.returns-clause-gives
returns-clause-gives g c =
    let some : 0 < length c.args.header.now = grind (arith, nat_tests, c.if-is_empty.ensures) in (
      c.deref.result.now,
      framed_back c.args.header.now c.deref.result.now some (rw c.deref.ensures.value c.in_ok-text.ensures),
      c.in_ok-write_out.ensures.written,
    )
