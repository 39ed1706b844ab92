pub mod Words
pub mod Marks
pub mod Claimed
