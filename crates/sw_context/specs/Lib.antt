-- Contexts.
--
-- A list of pairs of name and value, in order: `find`, `with_value` (a put: a name that is there
-- keeps its place), `without` (a take). `IsContext`: at most 64 entries of different names, each
-- name by the name rule (`is_name`), each value below 2^16 bytes. `refusal` is why a put is
-- refused; `bytes_of` the one spelling.
pub mod Names
pub mod Pairs
pub mod Spelling
