pub mod Accepted
pub mod Flags
pub mod Steps
