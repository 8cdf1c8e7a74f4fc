use Rattle.std.proofs.Common.{◌≡◌, ◌∙◌, ◌+◌, sym, subst, arith}
use Rattle.iso_codec.specs.Digits.{bits_at}
use Rattle.std.proofs.Common.{drop, List, ℕ}
use Rattle.iso_dialect.proofs.DigitLoops.{bits_step, bits_none, bits_end}
use Rattle.iso_dialect.proofs.bitmap.read_bits.Goals as goal
use Rattle.iso_codec.specs.Reads.{put_before}

pub returns-in_default-clause-bits : goal.returns-in_default-clause-bits
returns-in_default-clause-bits c = bits_none c.args.text.now c.loop-c.numbers c.loop-c.c-index c.loop-c.at _ c.loop-c-test.true
    (sym c.hex_digit.ensures.value ∙ c.in_default.is) c.loop-c.invariant.so_far

pub loop-c-preserved : goal.loop-c-preserved
loop-c-preserved c =
    let step = bits_step c.args.text.now c.loop-c.numbers c.loop-c.c-index c.loop-c.at c.in-Some.digit
    (put_before c.args.numbers.now (bits_at c.args.first c.args.text.now)) c.loop-c-test.true (sym c.hex_digit.ensures.value ∙ c.in-Some.is)
    c.loop-c.invariant.so_far in
    record {
      at = omega (arith, c.loop-c.invariant.at);
      small = omega (arith, c.loop-c.invariant.small, c.push_digit.ensures.small);
      so_far = subst (λ (x : List ℕ). put_before x (bits_at (c.loop-c.at + 4) (drop (c.loop-c.c-index + 1) c.args.text.now)) ≡ put_before c.args.numbers.now
          (bits_at c.args.first c.args.text.now)) (sym c.push_digit.ensures.pushed) step;
    }

pub returns-clause-bits : goal.returns-clause-bits
returns-clause-bits c = bits_end c.args.text.now c.loop-c.numbers c.loop-c.c-index c.loop-c.at _ c.loop-c-test.false c.loop-c.invariant.so_far
