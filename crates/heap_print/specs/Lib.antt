pub mod Words
pub mod Lines
pub mod Chains
pub mod Counting
pub mod Notes
