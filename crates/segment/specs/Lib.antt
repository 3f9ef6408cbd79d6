pub mod Layout
pub mod Segments
pub mod Copies
pub mod Aging
