-- Images.
--
-- `image_of` is the image of a flow: the header and the lines of its participants, groups and
-- steps. `lines_in` reads each line by itself, `flow_in` the lines together; `load_of` is the
-- flow of an image or the first fault: the lines, then the version, then the lines together, then
-- the flow's check. `line_fault` is the first fault of a line by itself or of the version, which
-- is reported without memory; `lines_over` is the same reading without what the lines say.
pub mod Image
pub mod Reads
pub mod Words
pub mod Forms
pub mod Groups
pub mod Load
pub mod LookOver
pub mod Bounds
