-- Readers and writers that recode.
--
-- `IsHandedOn` says what of a stream was recoded and handed on, `IsReadSo` and `IsWrittenSo` the same of a reader and a writer, and
-- `ReadsOn`, `WritesOn` and `FlushesOn` what each call adds.
pub mod Flows
pub mod Passages
pub mod Queues
pub mod Readers
pub mod Writers
