-- Laws. `Faults`: the writer's number is the reader's. `Lawful`: what the test of an envelope says. `Found`: reading undoes writing. `Rounds`: writing undoes reading. `Bounds`: what the reader takes
-- is within bounds and not light. `Envelopes`: both together, for every lawful envelope and every replica that fits. `Taken`: what is read with the ledger apart. `Longest`: 1,111 bytes. `Numbers`: a
-- verdict has the number that the check found. `Placed`: what a call that writes leaves in a buffer. `Parts` is for the calls on values, `Ranges` for what
-- a call knows of an envelope.
-- The others lead there: `Stuck` and `Sticky` say that the first fault stays, `Ahead` to `Registers` go
-- forwards over bytes that were written, `Backs` to `FieldBacks` back over bytes that were read.
pub mod Stuck
pub mod Sticky
pub mod Numbers
pub mod Ranges
pub mod Ahead
pub mod Moves
pub mod Cells
pub mod GoodRows
pub mod Rows
pub mod Sheets
pub mod Heads
pub mod Registers
pub mod Faults
pub mod Lawful
pub mod Found
pub mod Backs
pub mod Parts
pub mod SheetBacks
pub mod FieldBacks
pub mod Rounds
pub mod Bounds
pub mod Envelopes
pub mod TakenLemmas
pub mod Placed
pub mod Longest
