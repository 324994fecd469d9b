-- Laws, in reading order: tests, sums, lists by their values, differences, weights, what a margin tells, two quorums that meet, and the published rule.
pub mod Tests
pub mod Sums
pub mod Tables
pub mod Differences
pub mod Weights
pub mod Margins
pub mod Meeting
pub mod Rule
