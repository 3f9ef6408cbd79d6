pub mod Tables
pub mod Numbered
pub mod Directories
pub mod Nears
pub mod Reaches
