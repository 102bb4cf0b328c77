pub mod Lists
pub mod Options
pub mod Conjunctions
pub mod Tables
pub mod Marks
pub mod Explaining
pub mod Boards
