pub mod Slots
pub mod Watching
