use Rattle.std.proofs.Common.{arith, ◌≤◌, ◌<◌, ◌^◌, ℕ}
use Rattle.std.proofs.Math.Nat.{pow-le-pow_right}
use Rattle.sw_messages.proofs.amount.amount_of.Goals as goal

-- fewer than twelve digits spell less than a hundred thousand million
few_digits : (i n : ℕ) → i < 12 → n < 10 ^ i → n < 100000000000
few_digits i n few small = (let most : 10 ^ i ≤ 10 ^ 11 = pow-le-pow_right {n = 10} (omega arith) {i = i} {j = 11} (omega (arith, few)) in
    omega (arith, small, most))

pub overflow_mul-amount : goal.overflow_mul-amount
overflow_mul-amount c = (let few = few_digits c.loop-digit.digit-index c.loop-digit.amount (omega (arith, c.requires, c.loop-digit-test.true))
    c.loop-digit.invariant.small in omega (arith, few))

pub overflow_add-amount : goal.overflow_add-amount
overflow_add-amount c = (let few = few_digits c.loop-digit.digit-index c.loop-digit.amount (omega (arith, c.requires, c.loop-digit-test.true))
    c.loop-digit.invariant.small in omega (arith, few, c.type_inv.digits c.loop-digit.digit-index))
