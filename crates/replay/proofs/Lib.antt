pub mod Told
pub mod Silent
pub mod Stepping
pub mod Turning
pub mod Performing
pub mod Closing
pub mod Heading
