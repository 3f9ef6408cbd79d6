pub mod Raised
pub mod Marks
