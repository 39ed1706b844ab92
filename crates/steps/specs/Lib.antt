pub mod Steps
pub mod Others
pub mod Asked
pub mod Claiming
pub mod Marks
pub mod Emptying
pub mod Finishing
