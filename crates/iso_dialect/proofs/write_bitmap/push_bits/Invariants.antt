use Rattle.std.proofs.Common.{◌≡◌, ◌+◌, ◌-◌, ◌*◌, ◌++◌, true, length}
use Rattle.std.specs.List.{list_all}
use Rattle.iso_codec.specs.RisingBitmaps.{bits_of}
use Rattle.iso_dialect.specs.Codings.{is_upper_hex}
use Rattle.iso_dialect.proofs.write_bitmap.push_bits.Given as goal

abbrev pub invariant-loop : goal.invariant-loop
invariant-loop l = record {
  at : l.at ≡ 1 + 4 * l.counter;
  len : length l.text ≡ l.counter;
  hex : list_all is_upper_hex l.text ≡ true;
  so_far : l.text ++ bits_of l.at (l.digits - l.counter) l.rest ≡ bits_of 1 l.digits l.numbers;
}
