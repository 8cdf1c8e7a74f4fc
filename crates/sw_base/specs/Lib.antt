-- Refusals and digits.
--
-- `or_else` is the first of two refusals, `first_of` that of a list, `first_at` that of items
-- tested with their numbers. `refused` is what a call answers that takes no memory, `Accepts`
-- what a call answers that reports out of memory last. `number_of` is the number that decimal
-- digits spell.
pub mod Digits
pub mod Refusals
pub mod Spelling
