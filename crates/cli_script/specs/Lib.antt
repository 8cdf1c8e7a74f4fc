-- Scripts.
--
-- `Grammar.antt` is the grammar of a script's lines: its `rows` are the first words of lines and
-- what the text after each means (`Forms.antt`); `meaning_of` is what a line means, or why it is
-- refused (text, control, empty word first). `Settings.antt` has the flow that settings state,
-- the number of sessions, and the replies that they queue, which answer in the order of their
-- lines. A scripted participant keeps `Queues`; each call takes the first of its kind
-- (`Answered`, `Chosen`, `Advised`, `Restored`). `turn_of` is the turn of a plant that a line is;
-- `Says` that a line did its turn and added the line of the outcome, which is `turn_line`.
-- `IsHead` says how far a script is read before its plant is made (`Heads.antt`); `RanAll` that
-- lines were run to their end. `where_text`, `held_text`, `rest_text` and `saved_text` are what
-- is shown of a transaction.
pub mod Words
pub mod Lines
pub mod Bytes
pub mod Puts
pub mod Groups
pub mod Forms
pub mod Grammar
pub mod Queues
pub mod Replies
pub mod Settings
pub mod Scripts
pub mod Heads
