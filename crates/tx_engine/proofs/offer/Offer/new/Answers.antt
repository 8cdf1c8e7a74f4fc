use Rattle.std.proofs.Common.{◌∙◌, subst, sym, arith, Result, Ok, Err, IfOk, IsErr}
use Rattle.sw_context.specs.Spelling.{IsSpelled}
use Rattle.tx_engine.proofs.offer.Offer.new.Goals as goal

failed : {A E : Type 0} (r : Result A E) (P : A → Type 0) → IsErr r → IfOk r P
failed (Ok a) P is_err = grind (arith, is_err)
failed (Err e) P is_err = tt

pub returns-in_err-spelled : goal.returns-in_err-spelled
returns-in_err-spelled c = failed c.from_residual.result _ c.from_residual.ensures.0

pub returns-in_err-spelled-2 : goal.returns-in_err-spelled-2
returns-in_err-spelled-2 c = failed c.from_residual-in_err-spelled-2.result _ c.from_residual-in_err-spelled-2.ensures.0

pub returns : goal.returns
returns c = c.in_ok-spelled.ensures.bytes

pub invariant_of-result : goal.invariant_of-result
invariant_of-result c = (
  c.in_ok-spelled-2.ensures.bytes ∙ sym c.in_ok-spelled.ensures.bytes,
  subst IsSpelled (sym c.in_ok-spelled.ensures.bytes)
      c.spelled.ensures.spelled,
)
