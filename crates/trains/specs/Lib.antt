pub mod Fills
pub mod Orders
pub mod Table
pub mod Apart
pub mod Ties
