-- All calls through every stop.
--
-- **The outcome law.** What was done for one transaction is its *trail*: the calls made for it
-- with their replies, and the stops between them, each with the row that the journal had then. A
-- *deed* is one of these: a preparation was answered, a selector chose, a member was notified, a
-- member recovered its context, everything stopped. A *place* of an outcome is the number of
-- members that were notified before it. Of a trail and what the journal has of that transaction
-- the law says six things:
--
-- - (a) *One way*: there is no commit beside an abort.
-- - (b) *All told*: where the transaction is over, each participant was notified at no fewer
--   places than it prepared without NO_JOIN.
-- - (c) *In order*: there is no stop between two preparations or selections, and none of them
--   after an outcome or a `recover`. A member is notified again, or recovers again, only after a
--   stop whose row did not say yet that it was notified. (The row was preparing or aborting, or
--   its `told`, the number of members that were notified, was not above the place.)
-- - (d) *Advised*: an advice in the journal is what the last outcome call of its place gave.
-- - (e) *Known, and in the row*: nothing was called of an id that is not below the journal's next
--   id. A row that is committing has no abort, another one no commit. The members at places below
--   its `told` were notified. Nobody prepared without NO_JOIN more often than the row has it
--   among its members and in `doing`. There is no advice of a place that is not below `told`.
-- - (f) *Decided*: a member that is notified after a stop at which the journal had a row of the
--   transaction is to commit where that row was committing, and otherwise to abort
--   (`FollowsRows`, `last_row`).
--
-- It is proved of one transaction at a time, since it speaks of one. What is written of a
-- transaction is its standing: undecided, to commit or to abort, with the members, how many of
-- them were notified, the due call and the row. Beyond that there is at most one reply, because a
-- call waits until what was due before it is written. A journalled transaction is opened again to
-- be committed where its row is committing, from the first member on that was not notified. Every
-- other one is opened again to be aborted, with the participant of `doing` as a member.
--
-- Files of `outcome_calls/specs`:
--
-- - Trail (the law of one trail), One (what may happen to one transaction)
-- - States (its state in the specified table, with the row that it was opened from)
-- - Core (events by ids), Plant (events by sessions, small steps), Runs (what runs of small steps
--   are made of)
-- - Owning, Stations, Words, Example
pub mod Trail
pub mod One
pub mod States
pub mod Core
pub mod Plant
pub mod Runs
pub mod Stations
pub mod Owning
pub mod Words
pub mod Example
