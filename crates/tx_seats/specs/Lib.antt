-- Seats and drives.
--
-- **Drives.** `Drive` is one call of `drive` (or `recover`, which is such a call), done or ended
-- by a fault, or one of `take_ended`. `AllDriven` is any number of them. `IsMade` is a plant as
-- `Plant::new` makes it.
--
-- **Seated.** `Seated` is said of a plant's core. Each session has the seat of the transaction
-- that it holds, and no other session has one. A reply that is kept is of the kind that the due
-- call asks for, held by a breakpoint or not. The context of each transaction of the journal that
-- is not finished (`IsUnfinished`) waits, unless session 0 holds it. `step_refusal` is why a step
-- is refused then.
pub mod Drives
pub mod Seated
