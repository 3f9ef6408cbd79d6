pub mod Telling
pub mod Leading
pub mod Delivering
pub mod Turning
pub mod Slots
pub mod Beginning
pub mod Nothing
pub mod Sent
