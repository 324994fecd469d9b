-- Definitions: the operation, the record, and each call (paper 01, "Desk").
pub mod Operations
pub mod Desks
pub mod Begins
pub mod Asks
pub mod Results
pub mod Margins
pub mod Hears
pub mod Hearings
