-- Frames.
--
-- `Framed`: four digits that spell the message's length, and the message. `IsPartial`: less than
-- a frame whose length may still be right; `IsBad`: four bytes in a length's place that are not
-- digits. `Stream bytes ms s`: the bytes begin with the frames of ms and no other frame follows,
-- and s is what a framer then has. `IsAnswer` says what a feed may answer.
pub mod Feeds
pub mod Stream
