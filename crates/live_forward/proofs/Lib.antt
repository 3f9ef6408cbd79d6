pub mod Keeps
pub mod Claiming
