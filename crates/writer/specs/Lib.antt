-- Definitions: what stands in a message, and its size; bytes written from a place on.
pub mod Outlines
pub mod Places
