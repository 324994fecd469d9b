-- Laws that the proofs cite, and in `Published` what the answers are by the published rule.
pub mod Numbers
pub mod Outcomes
pub mod HeadLemmas
pub mod RegisterLemmas
pub mod Fronts
pub mod Keeping
pub mod Absent
pub mod Rests
pub mod CellTurns
pub mod RowReads
pub mod Weighed
pub mod RowTurns
pub mod Scanned
pub mod Answered
pub mod Published
