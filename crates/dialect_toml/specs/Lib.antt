-- Profile files.
--
-- These definitions are over the document that `toml` parses. A section is the top table, `frame`, `message`, or the
-- tables of `field`; a `TablePath` is one of their tables. `word_in` finds a word of a list; `lead_of`, `kind_of` and the
-- definitions after them say what the class names of jPOS mean. `wants` says what may stand at a key, `fits` which values
-- that allows. `table_fault` is the first fault of a table by itself; `first_fault` of a document is that of its tables in
-- order, then the first field whose number an earlier one has. `draft_of` is the draft that a document without a fault
-- states, `frame_of` its frame, `reading` what a text reads as; `IsProfileFile peer f text` says that it reads as f,
-- `Refuses peer text e` what a refusal says.
pub mod Keys
pub mod Words
pub mod Shapes
pub mod Tables
pub mod Faults
pub mod Frames
pub mod Rows
pub mod EachField
pub mod ProfileFile
