-- Definitions: the refusals and their numbers, the cluster, what the calls on it answer, and what a function finds on the way.
pub mod Refusals
pub mod Cluster
pub mod Answers
pub mod Firsts
