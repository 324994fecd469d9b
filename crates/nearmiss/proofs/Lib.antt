-- Theorems: how runs compute; runs of the plain machine, and its numbers; then the wrong stores that come close (paper 01; paper 02, N1 and N2), each refuted.
pub mod Answers
pub mod Computing
pub mod Shown
pub mod Refused
pub mod Parts
pub mod Refuting
pub mod SheetAlone
pub mod OtherSheet
pub mod CountedTwice
pub mod Unheard
pub mod FixedTag
pub mod NoRestarts
pub mod Unequal
pub mod SpentEarly
pub mod HalfWeight
pub mod LevelTotal
