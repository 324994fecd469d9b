-- Definitions: numbers and maps as bytes, then the table.
pub mod Bytes
pub mod Table
