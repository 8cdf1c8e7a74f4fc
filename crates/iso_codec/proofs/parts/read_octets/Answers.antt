use Rattle.std.proofs.Common.{◌∙◌, sym, arith}
use Rattle.std.proofs.lemmas.List.{length-set}
use Rattle.iso_codec.proofs.DigitLoops.{octet_step, octet_none, octets_end}
use Rattle.iso_codec.proofs.parts.read_octets.Goals as goal

pub returns-in_default : goal.returns-in_default
returns-in_default c = octet_none c.args.text.now c.loop-i.bytes c.loop-i.i _ (omega (arith, c.requires)) (sym c.octet.ensures ∙ c.in_default.is)
    c.loop-i.invariant.so_far

pub loop-i-preserved : goal.loop-i-preserved
loop-i-preserved c = record {
  eight = length-set c.loop-i.bytes c.loop-i.i c.in-Some.byte ∙ c.loop-i.invariant.eight;
  so_far = octet_step c.args.text.now c.loop-i.bytes c.loop-i.i c.in-Some.byte _ (omega (arith, c.requires)) (omega (arith, c.loop-i.invariant.eight))
      (sym c.octet.ensures ∙ c.in-Some.is) c.loop-i.invariant.so_far;
}

pub returns : goal.returns
returns c = octets_end c.args.text.now c.loop-i.bytes c.loop-i.i _ (omega (arith, c.requires)) (omega (arith, c.loop-i.invariant.eight))
    c.loop-i.invariant.so_far
