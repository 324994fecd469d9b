-- Definitions, in reading order: sets of transfers, what the parties hold, the structure of a run; the plain machine's calls and steps; what the clauses
-- of demand 3 look at, and the clauses; what is seen of a run; the sheets; the arguments that a call can have; linearizability; and
-- what desk staff see.
pub mod Sets
pub mod Parties
pub mod Runs
pub mod Calls
pub mod Steps
pub mod Views
pub mod Seen
pub mod Sheets
pub mod Clauses
pub mod Typed
pub mod Linear
pub mod Margins
