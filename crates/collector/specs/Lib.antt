pub mod Dealt
pub mod Begun
pub mod Swept
pub mod Collected
