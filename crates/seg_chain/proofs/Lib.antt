pub mod Counts
pub mod Paths
pub mod Moves
pub mod Calls
pub mod Laws
