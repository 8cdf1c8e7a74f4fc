use Rattle.std.proofs.Common.{◌<◌, ◌∙◌, ap, arith}
use Rattle.iso_msg.specs.Messages.{Fields}
use Rattle.cli_encode.specs.Reading.{last_of}
use Rattle.cli_encode.proofs.Points.{may_follow, put_last}
use Rattle.cli_encode.proofs.encoder.add_field.Goals as goal

pub returns-in-Ok : goal.returns-in-Ok
returns-in-Ok c =
    let less : last_of c.args.message.now.fields < c.args.number = omega (arith, c.if-number-last_number.false, c.last_number.ensures) in (
      may_follow c.args.message.now c.args.number c.args.value.now less c.in-Ok.ensures.taken,
      c.in-Ok.ensures.ok ∙ ap (λ (fs : Fields). record { mti = c.args.message.now.mti; fields = fs })
          (put_last 1 c.args.message.now.fields c.args.number c.args.value.now c.is_message.ensures.1 less),
    )
