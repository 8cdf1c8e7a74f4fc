use Rattle.std.proofs.Common.{◌∙◌, sym, refl, inl}
use Rattle.cli_encode.proofs.Points.{field_none, field_taken}
use Rattle.cli_encode.proofs.encoder.Encoder.add.Goals as goal

pub returns-in_default-clause-taken : goal.returns-in_default-clause-taken
returns-in_default-clause-taken c p h = (field_none p c.args.number c.args.value.now (λ m e. c.in_default.not-Open m (sym h.stage ∙ e)), p, inl refl, h)

pub returns-clause-taken : goal.returns-clause-taken
returns-clause-taken c = field_taken c.add_field.result c.args.self.now c.in-Open.message c.add_field.new.message c.args.number c.args.value.now
    c.in-Open.is c.add_field.ensures
