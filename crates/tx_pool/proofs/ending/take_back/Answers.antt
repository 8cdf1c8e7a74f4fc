use Rattle.std.proofs.Common.{arith}
use Rattle.std.proofs.lemmas.Bool.Decides.{nat_tests}
use Rattle.tx_pool.proofs.Ends.{since_entries, since_sessions}
use Rattle.tx_pool.proofs.ending.take_back.Goals as goal
use Rattle.tx_plant.specs.Wholes.{core_in}

pub close_sessions-receipts-requires-clause-room : goal.close_sessions-receipts-requires-clause-room
close_sessions-receipts-requires-clause-room g c =
    let r = c.into_parts-running.result in
    let same = since_sessions g.K.Run.start (core_in r.running) r.getter.passed r.book.total r.made.items
    c.into_parts-running.ensures.since in
    grind (arith, nat_tests, same, c.requires.room, c.if-len-sessions.false, c.len.ensures, c.sessions.ensures, c.engine-2.ensures)

pub returns-clause-sessions : goal.returns-clause-sessions
returns-clause-sessions g c =
    let r = c.into_parts-running.result in
    let same = since_sessions g.K.Run.start (core_in r.running) r.getter.passed r.book.total r.made.items
    c.into_parts-running.ensures.since in
    grind (arith, nat_tests, same, c.close_sessions-receipts.ensures.count, c.if-len-sessions.false, c.len.ensures, c.sessions.ensures, c.engine-2.ensures)

pub returns-clause-longer : goal.returns-clause-longer
returns-clause-longer g c =
    let r = c.into_parts-running.result in
    since_entries g.K.Run.start (core_in r.running) r.getter.passed r.book.total r.made.items c.into_parts-running.ensures.since
