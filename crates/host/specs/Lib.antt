-- Definitions.
pub mod Codes
pub mod Calls
