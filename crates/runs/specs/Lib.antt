-- Definitions, in reading order: steps, what a call comes to, runs, what is seen of a run, and demand 3.
pub mod Steps
pub mod Calls
pub mod Runs
pub mod Seen
pub mod Clauses
