-- Definitions, in reading order: sums, lists by their values, the signed difference, weights and quorums, and the published rule.
pub mod Sum
pub mod Tables
pub mod Difference
pub mod Accounts
pub mod Published
