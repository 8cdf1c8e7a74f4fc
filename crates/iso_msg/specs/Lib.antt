-- Messages.
--
-- `definition_of`: 53 numbers from 2 to 128, each with its name in ISO 8583:1987 and a form:
-- fixed, LLVAR or LLLVAR, of digits (n) or printable characters (ans), or 64 bits (b). `refusal`
-- says why a field does not take a value: not in the profile, then length, then content. A
-- `PlainMessage` is the four digits of the type and a finite map, written as the list of its
-- pairs in which the numbers rise; `value_at`, `with_value`, `without` and `numbers_of` are the
-- map's.
pub mod Table
pub mod Values
pub mod Messages
pub mod Storage
