pub mod World
pub mod Settings
pub mod Hands
pub mod Holding
pub mod Moves
pub mod Wholes
pub mod Turns
