use Rattle.std.proofs.Common.{◌∙◌, ◌++◌, ℕ, List, ap}
use Rattle.std.specs.Prelude.{map}
use Rattle.std.specs.List.{list_all}
use Rattle.iso_dialect.specs.Codings.{hex_half, is_half}
use Rattle.iso_dialect.proofs.HalfDigits.{octet_halves}
use Rattle.iso_dialect.proofs.write_text.push_octets.Goals as goal

pub push_pairs-requires-clause-halves : goal.push_pairs-requires-clause-halves
push_pairs-requires-clause-halves c =
    ap (list_all is_half) (c.as_slice.ensures ∙ c.push_octet_halves.ensures ∙ ap (λ (x : List ℕ). x ++ map hex_half c.args.text.now) c.new-list.ensures)
    ∙ octet_halves c.args.text.now c.requires.digits
