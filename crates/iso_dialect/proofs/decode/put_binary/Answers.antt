use Rattle.iso_dialect.proofs.OctetBytes.{gives_same, placed_octets}
use Rattle.iso_dialect.proofs.decode.put_binary.Goals as goal

pub returns-in-Ok : goal.returns-in-Ok
returns-in-Ok c = gives_same _ c.put.result _ _ (placed_octets c.args.message.now c.args.number c.args.text.now c.in-Ok.value c.in-Ok.ensures) c.put.ensures
