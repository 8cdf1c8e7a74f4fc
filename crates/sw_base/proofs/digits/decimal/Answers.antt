use Rattle.std.proofs.Common.{arith, ◌≤◌, ◌<◌, ◌^◌, ℕ}
use Rattle.std.proofs.Math.Nat.{pow-le-pow_right}
use Rattle.sw_base.proofs.digits.decimal.Goals as goal

-- fewer than nine digits spell less than a hundred million
few_digits : (i n : ℕ) → i < 9 → n < 10 ^ i → n < 100000000
few_digits i n few small = (let most : 10 ^ i ≤ 10 ^ 8 = pow-le-pow_right {n = 10} (omega arith) {i = i} {j = 8} (omega (arith, few)) in
    omega (arith, small, most))

pub overflow_mul-total : goal.overflow_mul-total
overflow_mul-total c = (let few = few_digits c.loop-digit.digit-index c.loop-digit.total (omega (arith, c.requires, c.loop-digit-test.true))
    c.loop-digit.invariant.small in omega (arith, few))

pub overflow_add-total : goal.overflow_add-total
overflow_add-total c = (let few = few_digits c.loop-digit.digit-index c.loop-digit.total (omega (arith, c.requires, c.loop-digit-test.true))
    c.loop-digit.invariant.small in omega (arith, few, c.type_inv.digits c.loop-digit.digit-index))
