-- Definitions: the record, and each call (paper 01, "Server").
pub mod Servers
pub mod Transfers
pub mod Shares
pub mod Serves
pub mod Servings
