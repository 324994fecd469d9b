-- Laws: values, registers, and replicas, their join and how they compare. `Ranges` is for what a call knows of its arguments, `Told` for what the ledger's
-- answer tells.
pub mod Ranges
pub mod Values
pub mod Registers
pub mod Told
pub mod Replicas
pub mod Comparisons
