use Rattle.std.proofs.Common.{◌∙◌, ap}
use Rattle.iso_dialect.specs.Codings.{is_writable}
use Rattle.iso_dialect.proofs.BitmapWrites.{hex_writable}
use Rattle.iso_dialect.proofs.write_bitmap.push_bitmaps.Goals as goal

pub push_coded-requires-clause-can : goal.push_coded-requires-clause-can
push_coded-requires-clause-can c =
    ap (is_writable c.args.coding) c.as_slice.ensures
    ∙ hex_writable c.args.coding c.push_digits.new.text c.requires.hex c.push_digits.ensures.even c.push_digits.ensures.hex
