-- Definitions.
pub mod Offers
