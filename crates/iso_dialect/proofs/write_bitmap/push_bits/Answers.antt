use Rattle.std.proofs.Common.{◌∙◌, ◌≡◌, ap, ℕ, ◌++◌, ◌∷◌, [], length, arith, length-append}
use Rattle.iso_codec.specs.RisingBitmaps.{bits_of}
use Rattle.iso_codec.specs.Spelling.{upper}
use Rattle.iso_dialect.proofs.BitmapWrites.{push_step, push_end, hex_more}
use Rattle.iso_dialect.proofs.write_bitmap.push_bits.Goals as goal

pub loop-preserved : goal.loop-preserved
loop-preserved c =
    let e : c.push.new.self ≡ c.loop.text ++ upper c.take_digit-digit.result.0 ∷ [] =
    c.push.ensures ∙ ap (λ (d : ℕ). c.loop.text ++ d ∷ []) c.upper_digit.ensures in
    record {
      at = omega (arith, c.loop.invariant.at);
      len = omega (arith, simp length-append at (ap length e), c.loop.invariant.len);
      hex = hex_more c.loop.text c.push.new.self c.take_digit-digit.result.0 e c.take_digit-digit.ensures.small c.loop.invariant.hex;
      so_far = push_step c.loop.text c.push.new.self c.loop.at c.args.digits c.loop.counter c.take_digit-digit.result.0 c.loop.rest.now
          c.take_digit-digit.result.1.now (bits_of 1 c.args.digits c.args.numbers.now) c.loop-test.true e c.take_digit-digit.ensures.digit
          c.loop.invariant.so_far;
    }

pub returns-clause-bits : goal.returns-clause-bits
returns-clause-bits c = push_end c.loop.text c.loop.at c.args.digits c.loop.counter c.loop.rest.now _ c.loop-test.false c.loop.invariant.so_far
