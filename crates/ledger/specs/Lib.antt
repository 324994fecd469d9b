-- Definitions, in reading order: the ledger, maps of servers, weights, checks, the join, and one transfer more. `Balances` and `Sums` serve the rest.
pub mod Ledgers
pub mod Maps
pub mod Balances
pub mod Weights
pub mod Checks
pub mod Sums
pub mod Joins
pub mod Changes
