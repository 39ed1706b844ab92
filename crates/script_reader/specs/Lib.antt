pub mod Lines
pub mod Words
pub mod Names
pub mod Reader
pub mod Spelling
