pub mod Sizes
pub mod Spaces
