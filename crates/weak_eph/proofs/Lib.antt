pub mod Chains
pub mod Tables
pub mod Watched
pub mod Indexes
pub mod Calls
pub mod Halfway
