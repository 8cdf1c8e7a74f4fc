use Rattle.std.proofs.Common.{length, ap, arith, List, ℕ, take}
use Rattle.std.proofs.lemmas.List.{length-map, length-take}
use Rattle.iso_codec.proofs.write.numbers_in.Goals as goal

pub push-requires : goal.push-requires
push-requires c =
    let fs = take c.loop-i.i c.args.message.now.fields in
    omega (
      arith,
      ap (λ (x : List ℕ). length x) c.loop-i.invariant,
      length-map fs (λ (f : ℕ × List ℕ). f.0),
      length-take c.loop-i.i c.args.message.now.fields,
      c.field_count-i-end.ensures.small,
    )
