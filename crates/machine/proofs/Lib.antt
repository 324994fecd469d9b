-- Laws, in reading order.

-- Runs by computation.
pub mod Computing
pub mod Blocks
pub mod Pins
-- Lists, places of a run, and what comes out of a choice.
pub mod Lists
pub mod Places
pub mod Branches
-- What each call, each step, and each step for one desk can come to.
pub mod Outcomes
pub mod Histories
pub mod Moves
pub mod Desks
-- The structure of a run.
pub mod Structure
-- Tags and sets; weights on closed sets; question four.
pub mod Tags
pub mod Sets
pub mod Joins
pub mod Closed
pub mod Numbers
pub mod QuestionFour
-- Operations: where they begin and end, what they wait for, their phases, results and restarts; where each register comes from, and values.
pub mod Performed
pub mod Waiting
pub mod Phases
pub mod Registers
pub mod Results
pub mod Restarts
pub mod Traces
pub mod Values
-- The invariant, and that every step keeps it.
pub mod Replicas
pub mod Invariant
pub mod DesksKept
pub mod ServersKept
pub mod GiftsKept
pub mod Always
-- What follows for every set held or sent, and why the numbers 2 to 6 do not occur.
pub mod Sheets
pub mod Rows
pub mod Replies
pub mod SetRanges
pub mod Clashes
pub mod WorkRanges
pub mod Ranges
-- The published rule, the order of tags, and all clauses together; what follows from them.
pub mod Rule
pub mod Following
pub mod Later
pub mod Order
pub mod Whole
pub mod Linear
-- Concrete lists.
pub mod Concrete
