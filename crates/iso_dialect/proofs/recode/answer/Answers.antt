use Rattle.iso_codec.specs.Reads.{read}
use Rattle.iso_dialect.proofs.Recoding.{of_reading}
use Rattle.iso_dialect.proofs.recode.answer.Goals as goal

pub returns-in-Ok : goal.returns-in-Ok
returns-in-Ok c = of_reading (λ v. v.items) c.args.profile.now c.recode.result (read c.args.text.now) c.in-Ok.message c.in-Ok.ensures.first_fault c.recode.ensures
