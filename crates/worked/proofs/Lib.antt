-- Paper 01's cases 1 to 11 as one theorem and its share in hex (Cases), and bad inputs with their numbers: of the cluster and the ledger (Refusals),
-- of a server's calls (Calls), and of lists of start weights (Starts). Gifts, Quorums and Messages have what the cases use. Carried turns runs of the plain machine into the
-- program's; Pins and Shown have whole runs of the program.
pub mod Refusals
pub mod Gifts
pub mod Quorums
pub mod Messages
pub mod Cases
pub mod Calls
pub mod Starts
pub mod Carried
pub mod Pins
pub mod Shown
