-- - *First that passes, those after it, how many before it; newest* (`sw_wire/specs/Boxes.antt`):
--   of the items of a box, oldest first. *Has the key, timely* (`Wanted.antt`): what is looked
--   for in an inbox and in an outbox. *Key of bytes, answers, waits for* (`Keyed.antt`): of the
--   message that they spell. *Due, ordered* (`Directions.antt`): a second after the last order,
--   and only where it is closed. *Later* (`Moments.antt`): a moment in microseconds, and a time.
--   *Sent as* (`Outgoings.antt`): the frame of a message, and the answer that is waited for.
--   *Shown by a look* (`Looks.antt`): an answer, too late, closed, nothing yet. *Paused, tested
--   from* (`Pauses.antt`, `Times.antt`): a host that did not answer in time is not asked, and
--   gets echo tests from a moment on while nothing is read from it. *Opened from*
--   (`Directions.antt`): then a closed direction is ordered without a message. *Duty, next test*
--   (`Watches.antt`): what the thread that writes does where no frame waits, and when an echo
--   test is due. *Echo* (`Echoes.antt`): the frame of an echo test. *Came* (`Comings.antt`): an
--   answer to one, a message by its key, or neither. *Sends over, receives over, sees last*
--   (`Ways.antt`): what is done over a way to a host, whatever way that is. *Writes, gives*
--   (`Writing.antt`): what is written of the frames that a source gives.
pub mod Answers
pub mod Boxes
pub mod Comings
pub mod Directions
pub mod Echoes
pub mod Framing
pub mod HostLine
pub mod Keyed
pub mod Looks
pub mod Moments
pub mod Outgoings
pub mod Pauses
pub mod States
pub mod Times
pub mod Wanted
pub mod Watches
pub mod Ways
pub mod Writing
