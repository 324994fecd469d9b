-- Definitions, in reading order: the envelope and the bytes of a message, the reader's steps, the whole message, what the calls answer, and the writer's
-- number.
pub mod Envelopes
pub mod Cursors
pub mod Scans
pub mod Answers
pub mod Faults
