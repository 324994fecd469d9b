-- Definitions, in reading order: values, registers, and replicas and their join.
pub mod Values
pub mod Registers
pub mod Replicas
pub mod Parts
