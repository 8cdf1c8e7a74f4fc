use Rattle.std.proofs.Common.{◌≡◌, ◌∙◌, sym, ap, subst, List, ℕ, ◌+◌, drop, length, length-append, arith}
use Rattle.iso_codec.specs.Reads.{put_before}
use Rattle.iso_dialect.specs.Codings.{char_of, each}
use Rattle.iso_dialect.proofs.Texts.{each_step, each_none, each_end}
use Rattle.iso_dialect.proofs.packed.push_digits.Goals as goal

pub returns-in_default : goal.returns-in_default
returns-in_default c = each_none char_of c.args.list.now c.loop-half.text c.loop-half.half-index _ c.loop-half-test.true
    (sym c.char_at.ensures ∙ c.in_default.is) c.loop-half.invariant.so_far

pub loop-half-preserved : goal.loop-half-preserved
loop-half-preserved c =
    let step = each_step char_of c.args.list.now c.loop-half.text c.loop-half.half-index c.in-Some.c _ c.loop-half-test.true
    (sym c.char_at.ensures ∙ c.in-Some.is) c.loop-half.invariant.so_far in
    record {
      len = omega (arith, simp length-append at (ap length c.push.ensures), c.loop-half.invariant.len);
      so_far = subst (λ (x : List ℕ). put_before x (each char_of (drop (c.loop-half.half-index + 1) c.args.list.now))
          ≡ put_before c.args.text.now (each char_of c.args.list.now)) (sym c.push.ensures) step;
    }

pub returns : goal.returns
returns c = each_end char_of c.args.list.now c.loop-half.text c.loop-half.half-index _ c.loop-half-test.false c.loop-half.invariant.so_far
