-- Bytes of messages.
--
-- `Spells` relates bytes and message, and is neither reading nor writing: the bytes are the four
-- digits of the type, one bitmap or two, and the texts of the fields in the order of their
-- numbers, and nothing else. Digits of bitmaps and binary fields have either case, and an empty
-- second bitmap may stand; everything else has one spelling. `read` is the message of all the
-- bytes or the first fault. Each part is taken whole (Short), and then looked at. The parts come
-- in this order: the type, the bitmaps, the numbers, then each field's length digits, value and
-- content. What is left over comes last. `read_over` is the same reading that keeps the type
-- alone, `type_of` the type of what was read. `spelling` is the one that is written.
pub mod Digits
pub mod Grammar
pub mod Reads
pub mod Spelling
pub mod GrowingMessage
pub mod RisingBitmaps
