pub mod Walks
pub mod Sizes
pub mod Halts
