pub mod Encoding
pub mod Faults
pub mod Loading
pub mod LoadingLemmas
pub mod Reading
pub mod Storing
pub mod Walking
