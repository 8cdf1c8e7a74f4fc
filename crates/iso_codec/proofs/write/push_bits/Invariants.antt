use Rattle.std.proofs.Common.{◌≡◌, ◌+◌, ◌-◌, ◌*◌, ◌++◌}
use Rattle.iso_codec.proofs.write.push_bits.Given as goal
use Rattle.iso_codec.specs.RisingBitmaps.{bits_of}

abbrev pub invariant-loop : goal.invariant-loop
invariant-loop l = record {
  at : l.at ≡ l.first + 4 * l.counter;
  so_far : l.out.items ++ bits_of l.at (l.digits - l.counter) l.rest ≡ l.fn.out.items ++ bits_of l.first l.digits l.numbers;
}
