use Rattle.std.proofs.Common.{Err, Ok}
use Rattle.journal_store.proofs.ViewReads.{reading_of}
use Rattle.journal_store.proofs.viewing.read_as.Goals as goal

pub returns-in-Ok-clause-reads : goal.returns-in-Ok-clause-reads
returns-in-Ok-clause-reads c t holds =
    reading_of c.args.layout t c.args.stored.now _ _ _ _ _ _ (Ok c.in-Ok.view) holds c.rows.ensures.parts c.rows.ensures.meta c.rows.ensures.tx
    c.rows.ensures.members c.rows.ensures.shelf c.rows.ensures.advices c.in-Ok.ensures.reading

pub returns-in-Err-OutOfMemory-clause-reads : goal.returns-in-Err-OutOfMemory-clause-reads
returns-in-Err-OutOfMemory-clause-reads c t holds =
    let w = reading_of c.args.layout t c.args.stored.now _ _ _ _ _ _ (Err c.in-Err-OutOfMemory.field-0) holds c.rows.ensures.parts c.rows.ensures.meta
    c.rows.ensures.tx c.rows.ensures.members c.rows.ensures.shelf c.rows.ensures.advices c.in-Err-OutOfMemory.ensures.reading in
    rw c.in-Err-OutOfMemory.field-0-is at w

pub returns-in-Err-BadRow-clause-reads : goal.returns-in-Err-BadRow-clause-reads
returns-in-Err-BadRow-clause-reads c t holds =
    let w = reading_of c.args.layout t c.args.stored.now _ _ _ _ _ _ (Err c.in-Err-BadRow.field-0) holds c.rows.ensures.parts c.rows.ensures.meta
    c.rows.ensures.tx c.rows.ensures.members c.rows.ensures.shelf c.rows.ensures.advices c.in-Err-BadRow.ensures.reading in
    rw c.in-Err-BadRow.field-0-is at w
