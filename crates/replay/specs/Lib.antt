pub mod Built
pub mod Words
pub mod Engine
pub mod Texts
pub mod Rows
pub mod Ended
pub mod Reports
pub mod Headline
