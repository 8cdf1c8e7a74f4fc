use Rattle.std.proofs.Common.{◌∙◌, ◌≡◌, arith, sym, refl, inl, ap, length, subst}
use Rattle.iso_msg.specs.Messages.{IsMessage}
use Rattle.cli_encode.specs.Reading.{IsMessageIn}
use Rattle.cli_encode.specs.declared.encoder.Stage.TheVariants.{Open}
use Rattle.cli_encode.proofs.Points.{begun_at, type_early, type_none, type_step, whole_header}
use Rattle.cli_encode.proofs.encoder.Encoder.begin.Goals as goal

pub returns-in_default-clause-taken : goal.returns-in_default-clause-taken
returns-in_default-clause-taken c p h = (type_none p c.args.mti (λ e. c.in_default.not-Headed (sym h.stage ∙ e)), p, inl refl, h)

pub returns-then-len-self-clause-taken : goal.returns-then-len-self-clause-taken
returns-then-len-self-clause-taken c p h = (
  type_early p c.args.mti (h.stage ∙ c.in-Headed.is) (λ e. c.if-len-self.true (omega (arith, e, ap length h.header, h.size, c.len.ensures))),
  p,
  inl refl,
  h,
)

pub returns-clause-taken : goal.returns-clause-taken
returns-clause-taken c p h =
    let here = h.stage ∙ c.in-Headed.is in
    let whole : length p.header ≡ p.size = omega (arith, ap length h.header, h.size, c.len.ensures, c.if-len-self.false) in
    let opening = subst (IsMessageIn p.size p.header) here h.begun in (
      record { size = p.size; done = p.done; header = p.header; stage = Open c.new.result },
      type_step p c.args.mti c.new.result here whole c.new.ensures,
      begun_at p _ _ p.header (Open c.new.result) h refl refl (sym h.header) refl refl
          (whole_header p.size p.header opening whole, subst IsMessage (sym c.new.ensures) (c.digits.ensures.valid, tt)),
    )
