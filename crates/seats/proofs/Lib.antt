-- Laws.
pub mod Bits
