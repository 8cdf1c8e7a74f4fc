use Rattle.iso_dialect.proofs.FieldReads.{octets_found, octets_refused}
use Rattle.iso_dialect.proofs.field.octets_of.Goals as goal

pub returns-in-Ok : goal.returns-in-Ok
returns-in-Ok c = octets_found c.args.number c.args.text.now _ c.requires c.in-Ok.ensures

pub returns-in-Err : goal.returns-in-Err
returns-in-Err c = octets_refused c.args.number c.args.text.now c.in-Err.e c.requires c.in-Err.ensures
