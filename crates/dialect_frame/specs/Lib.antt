-- Frames as another system writes them.
--
-- `Framed`: the bytes of a length, a header and a message. The length spells how many bytes the two have, and its own bytes are
-- counted where the form says so. `IsPartial`: less than a frame whose length may still be right; `IsBad`: the bytes of a length,
-- which is that of no message that may come. `Stream`, `IsAnswer` and `ReadsStream` say of these frames what the definitions of
-- those names in `sw_frame` say of its frames. `WrittenAs`: a frame with the header that the form gives.
pub mod Feeds
pub mod Forms
pub mod Stream
pub mod Writings
