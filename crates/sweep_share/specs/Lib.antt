pub mod Shares
pub mod Registers
pub mod Following
