-- Flows.
--
-- A flow is a number of retries and a list of named groups, each a list of entries (participant,
-- kind). A kind has three marks: selector, abort-aware, recovering. `first_fault` is the first
-- fault of a flow in the order of `check`; `IsChecked` says that there is no fault. The name rule
-- is that of contexts.
--
-- `parts_of` lists the participants by first appearance; `number_in` is a name's place there. A
-- `PlacedEntry` is an entry at its place (group, index) with its participant's number.
-- `entries_named f name` are the entries of the group of this name.
pub mod Check
pub mod Kinds
pub mod Places
pub mod Groups
