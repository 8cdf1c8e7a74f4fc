use Rattle.std.proofs.Common.{◌∙◌, ap}
use Rattle.std.specs.List.{list_all}
use Rattle.iso_dialect.specs.Codings.{is_half}
use Rattle.iso_dialect.proofs.HalfDigits.{packed_halves}
use Rattle.iso_dialect.proofs.write_text.push_packed.Goals as goal

pub push_pairs-requires-clause-halves : goal.push_pairs-requires-clause-halves
push_pairs-requires-clause-halves c =
    ap (list_all is_half) (c.as_slice.ensures ∙ c.push_padded.ensures) ∙ packed_halves c.args.on_right c.args.pad c.args.text.now c.requires.digits
