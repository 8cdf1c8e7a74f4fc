use Rattle.std.proofs.Common.{◌∙◌, ap, ℕ, ◌++◌, ◌∷◌, [], arith}
use Rattle.iso_codec.proofs.BitmapWrites.{push_step, push_end}
use Rattle.iso_codec.proofs.write.push_bits.Goals as goal
use Rattle.iso_codec.specs.RisingBitmaps.{bits_of}

pub loop-preserved : goal.loop-preserved
loop-preserved c = record {
  at = omega (arith, c.loop.invariant.at);
  so_far = push_step c.loop.out.items c.push.new.self.items c.loop.at c.args.digits c.loop.counter c.take_digit-digit.result.0 c.loop.rest.now
      c.take_digit-digit.result.1.now (c.args.out.now.items ++ bits_of c.args.first c.args.digits c.args.numbers.now) c.loop-test.true
      (c.in_ok-push.ensures.items ∙ ap (λ (d : ℕ). c.loop.out.items ++ d ∷ []) c.upper_digit.ensures) c.take_digit-digit.ensures.digit c.loop.invariant.so_far;
}

pub returns : goal.returns
returns c = push_end c.loop.out.items c.loop.at c.args.digits c.loop.counter c.loop.rest.now _ c.loop-test.false c.loop.invariant.so_far
