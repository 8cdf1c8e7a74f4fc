use Rattle.std.proofs.Common.{◌≡◌, ◌∙◌, sym, ap, subst, List, ℕ, ◌+◌, drop, length, length-append, arith}
use Rattle.iso_codec.specs.Reads.{put_before}
use Rattle.iso_dialect.specs.Codings.{each}
use Rattle.iso_dialect.specs.Pages.{char_in}
use Rattle.iso_dialect.proofs.Texts.{each_step, each_none, each_end}
use Rattle.iso_dialect.proofs.read.push_chars.Goals as goal

pub returns-in_default : goal.returns-in_default
returns-in_default c = each_none (char_in c.args.page) c.args.bytes.now c.loop-b.text c.loop-b.b-index _ c.loop-b-test.true
    (sym c.char_at.ensures ∙ c.in_default.is) c.loop-b.invariant.so_far

pub loop-b-preserved : goal.loop-b-preserved
loop-b-preserved c =
    let step = each_step (char_in c.args.page) c.args.bytes.now c.loop-b.text c.loop-b.b-index c.in-Some.c _ c.loop-b-test.true
    (sym c.char_at.ensures ∙ c.in-Some.is) c.loop-b.invariant.so_far in
    record {
      len = omega (arith, simp length-append at (ap length c.push.ensures), c.loop-b.invariant.len);
      so_far = subst (λ (x : List ℕ). put_before x (each (char_in c.args.page) (drop (c.loop-b.b-index + 1) c.args.bytes.now))
          ≡ put_before c.args.text.now (each (char_in c.args.page) c.args.bytes.now)) (sym c.push.ensures) step;
    }

pub returns : goal.returns
returns c = each_end (char_in c.args.page) c.args.bytes.now c.loop-b.text c.loop-b.b-index _ c.loop-b-test.false c.loop-b.invariant.so_far
