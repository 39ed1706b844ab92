pub mod Objects
pub mod Reached
pub mod Matching
pub mod HaltLaws
