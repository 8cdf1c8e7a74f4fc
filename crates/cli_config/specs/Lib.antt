-- Configuration files.
--
-- These definitions are over the document that `toml` parses. A section is the top table, the
-- hosts, the routes, `limits` or `run`; `tables_of` are its tables in a document, and a
-- `TablePath` is one of them by its number. `wants` says what may stand at a key, `fits` which
-- values that allows, `excluded` which key may not stand beside it. `table_fault` is the first
-- fault of a table by itself; `first_fault` of a document is that of its sections in order, then
-- the first host or route whose name or prefix an earlier one has. `config_of` is what a document
-- without a fault states, `reading` what a text reads as; `IsConfigFile c text` says that it
-- reads as c, `Refuses text e` what a refusal says. `IsChecked` has the bounds of what is read,
-- and that names and prefixes are distinct.
pub mod Keys
pub mod Tables
pub mod Faults
pub mod ConfigFile
pub mod Checked
