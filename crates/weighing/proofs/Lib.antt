pub mod Chains
pub mod Efforts
pub mod Fills
pub mod Meets
pub mod Outsides
pub mod Places
