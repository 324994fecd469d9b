-- Laws, in reading order.

-- The record for each thing that the plain machine holds, and what it has in common with it.
pub mod Records
pub mod Ledgers
pub mod Registers
pub mod Messages
-- Each call does what the machine's does.
pub mod Servers
pub mod Desks
pub mod Replies
pub mod Hearing
-- So does every run; what is seen of it, and every sheet, is the machine's.
pub mod Steps
pub mod Supplied
pub mod Simulation
pub mod Sheets
pub mod Brought
pub mod Views
-- Demand 3.
pub mod Demand3
-- What follows from it; and what desk staff see in a run.
pub mod Consequences
pub mod Margins
pub mod Sold
pub mod Literal
