-- Definitions: how runs are written here, the parts that a store can change, and the wrong stores that come close: those of paper 01 in its order, and
-- those of paper 02, N1 and N2.
pub mod Steps
pub mod Parts
pub mod SheetAlone
pub mod RegisterAlone
pub mod OtherSheet
pub mod CountedTwice
pub mod Unheard
pub mod FirstReply
pub mod NeverEnds
pub mod RefusesAll
pub mod AllLate
pub mod SpentEarly
pub mod FixedTag
pub mod NoRestarts
pub mod HeadCount
pub mod HalfWeight
pub mod LevelTotal
