pub mod Worlds
pub mod Counts
pub mod Laws
