-- Threads.
--
-- - *Drove.* A run did turns of the plant, with an outcome each, which lead from the stations,
--   counts and plant before it to those after it (`Drives.antt`).
-- - *Grown*, *Offered*, *Reports* (`Went.antt`). The history has more lawful entries, the entries
--   of the run. The contexts that they offer are those that the source gave, in order. Each
--   session's receipts are the numbers of its own entries (`own_numbers`), which are takes,
--   answers, choices, tolds and recovers. A transaction ends `done` where its row is dropped and
--   nothing is shelved, and `shelved` where it is dropped with a context on the shelf.
-- - *Settled.* Nothing waits, no session holds a transaction, and the mark is the length of the
--   history.
-- - *Refusals* (`Early.antt`). A breakpoint is set, a session holds a transaction, the capacity
--   is not 1 to 4,096: in this order, and out of memory only where none of them holds.
pub mod AllStations
pub mod Linked
pub mod RunSteps
pub mod Since
pub mod Receipts
pub mod Settled
pub mod Nothing
pub mod Finished
