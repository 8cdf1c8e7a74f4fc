mod DigitLoops
mod ResultSteps
mod FieldValues
mod Bitmaps
pub mod MessageReads
mod BitmapWrites
pub mod Encoding
mod EncodedLength
mod DecodeAnswers
pub mod FrontReads
