pub mod Seats
pub mod Fills
pub mod Moves
pub mod Fixes
pub mod Noting
pub mod Copies
