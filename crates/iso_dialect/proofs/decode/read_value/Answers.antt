use Rattle.std.proofs.Common.{◌∙◌, ℕ, List, length, ap}
use Rattle.iso_dialect.specs.Profiles.{has_text_length}
use Rattle.iso_dialect.proofs.FieldReads.{text_fits}
use Rattle.iso_dialect.proofs.decode.read_value.Goals as goal

pub put_text-requires-clause-len : goal.put_text-requires-clause-len
put_text-requires-clause-len c =
    ap (λ (x : List ℕ). has_text_length c.args.form (length x)) c.as_slice.ensures
    ∙ text_fits c.args.row c.args.form c.args.number c.args.bytes.now _ c.in_ok-rest.ensures
