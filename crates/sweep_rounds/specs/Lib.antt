pub mod Turns
pub mod Mails
