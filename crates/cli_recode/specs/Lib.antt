-- `recode`.
--
-- `IsRecoded` says what a message is recoded to, `IsRefusal` why it is not, `IsInstead` what then stands in its place, `AreWritten`
-- what is written for messages, and `IsRecodedStream` what is written for a stream. `IsRecodedInput` says that of an input by the profile
-- file at a path, and `IsInputError` why it is not so.
pub mod Conversion
pub mod FormatErrors
pub mod Profiles
pub mod Progress
pub mod Recodings
pub mod Streams
pub mod Inputs
