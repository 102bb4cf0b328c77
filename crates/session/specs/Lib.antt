pub mod Running
pub mod Sessions
