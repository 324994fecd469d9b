-- Definitions: what each step of the reader answers by the definitions of messages, what is kept of a sheet, and what is answered about its weights.
pub mod Steps
pub mod Heads
pub mod Registers
pub mod Keeping
pub mod Sheets
pub mod Wholes
pub mod Weighings
pub mod Tallies
