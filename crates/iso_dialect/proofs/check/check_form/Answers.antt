use Rattle.std.proofs.Common.{◌∙◌, ℕ, List, length, ap}
use Rattle.iso_dialect.specs.Profiles.{has_text_length}
use Rattle.iso_dialect.proofs.FieldReads.{text_fits}
use Rattle.iso_dialect.proofs.check.check_form.Goals as goal

pub check_value-requires : goal.check_value-requires
check_value-requires c =
    ap (λ (x : List ℕ). has_text_length c.args.form (length x)) c.as_slice.ensures
    ∙ text_fits c.args.row c.args.form c.args.number c.args.bytes.now _ c.in_ok-rest.ensures
