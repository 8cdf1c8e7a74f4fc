use Rattle.iso_dialect.specs.Profiles.{row_of}
use Rattle.iso_dialect.proofs.CheckedRows.{sound_at}
use Rattle.iso_dialect.proofs.WrittenFields.{field_is}
use Rattle.iso_dialect.proofs.WritableFields.{field_can}
use Rattle.iso_dialect.proofs.laws.fields_are_written.Goals as goal

pub returns-clause-written : goal.returns-clause-written
returns-clause-written c = λ p n v s r k h. field_is (row_of p.rows n) n v (sound_at p n s) r k h

pub returns-clause-all : goal.returns-clause-all
returns-clause-all c = λ p n v bytes s h k. field_can (row_of p.rows n) n bytes v (sound_at p n s) h k
