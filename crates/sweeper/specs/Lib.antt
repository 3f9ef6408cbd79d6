pub mod Sweepers
pub mod Ready
pub mod Starting
pub mod Looked
