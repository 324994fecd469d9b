-- Laws, in reading order: what a pen writes, numbers as bytes, maps, rows, whole messages, those that the reader
-- takes, and the answers.
pub mod Places
pub mod Puts
pub mod Outlines
pub mod Rows
pub mod Messages
pub mod Taken
pub mod Writes
