-- Messages as other systems write them.
--
-- The text of a part is that of the ASCII profile: digits of the type and of lengths, hexadecimal digits
-- of bitmaps and of octets, characters of values. A coding says which bytes are a text (`IsCoded`).
-- `first_refusal` says what is wrong with a draft first. `SpellsAs` relates the bytes of a profile and a
-- message, and is neither reading nor writing: the type, one bitmap or two, and the fields in the order of
-- their numbers, each as its row says, and nothing else. Fields that are not kept are in the bytes, and not
-- in the message. `read_as` is the message of all the bytes or the first fault, in the order of
-- `iso_codec`. `spelling_as` is the one spelling of a message that is written, and `unwritable_in` the first field
-- that has none. `ascii` is the profile of today's bytes.
pub mod Pages
pub mod Codings
pub mod Profiles
pub mod Fields
pub mod Messages
pub mod Readings
pub mod Writings
pub mod Lookings
pub mod Cuts
pub mod Ascii
pub mod AsciiProfile
