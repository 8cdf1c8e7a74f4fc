use Rattle.std.specs.List.{All}
use Rattle.std.specs.Prelude.{nat_lt}
use Rattle.std.proofs.Common.{◌≡◌, ◌<◌, ◌∙◌, List, ℕ, length, map, take, ap, sym, subst, arith}
use Rattle.std.proofs.lemmas.List.{length-set}
use Rattle.cli_io.specs.Quoting.{IsPrintable, between_marks, shown}
use Rattle.cli_io.proofs.Quotations.{all_shown, kept_all, kept_more}
use Rattle.cli_io.proofs.quoted.Quoted.of.Goals as goal

pub loop-index-preserved : goal.loop-index-preserved
loop-index-preserved c =
    let within : c.loop-index.index < length c.args.bytes.now = omega (arith, c.loop-index-test.true, c.min-len.ensures) in
    let room : c.loop-index.index < length c.loop-index.kept = omega (arith, c.loop-index-test.true, c.min-len.ensures, c.loop-index.invariant.long) in
    record {
      kept = kept_more c.loop-index.kept c.args.bytes.now c.loop-index.index 0 c.shown.result room within c.shown.ensures c.loop-index.invariant.kept;
      long = length-set c.loop-index.kept c.loop-index.index c.shown.result ∙ c.loop-index.invariant.long;
    }

pub invariant_of-result : goal.invariant_of-result
invariant_of-result c =
    let kept : take c.min-len.result c.loop-index.kept ≡ map shown (take 40 c.args.bytes.now) =
    kept_all c.loop-index.kept c.args.bytes.now c.loop-index.index c.min-len.result c.min-len.ensures c.loop-index-test.false
    c.loop-index.auto.index-end c.loop-index.invariant.kept in
    record {
      few = omega (arith, c.min-len.ensures);
      printable = subst (All IsPrintable) (sym kept) (all_shown (take 40 c.args.bytes.now));
    }

pub returns : goal.returns
returns c =
    ap (λ (text : List ℕ). between_marks text (nat_lt 40 (length c.args.bytes.now)))
    (kept_all c.loop-index.kept c.args.bytes.now c.loop-index.index c.min-len.result c.min-len.ensures c.loop-index-test.false
    c.loop-index.auto.index-end c.loop-index.invariant.kept)
