-- Flow files.
--
-- These definitions are over the document that `toml` parses. A `TablePath` is a table: the top,
-- a group, or an entry of a group. `table_fault` is the first fault of one table by itself: the
-- least unknown key, then the least required key that is absent, then the least key with a value
-- of another kind. `entry_of`, `group_of` and `flow_of` are what a table states, or the first
-- fault of it and of the tables in it, in order. `reading` is what a text reads as; `IsFlowFile f
-- text` says that it reads as f, `Refuses text e` what a refusal says; `document_of` is the
-- document that is printed.
pub mod Reads
pub mod Keys
pub mod Faults
pub mod FlowFile
pub mod Document
