-- Laws of the refusals, of the cluster and of what a call is given, for use above.
pub mod Refusals
pub mod Clusters
pub mod Houses
mod Filled
mod Lowest
