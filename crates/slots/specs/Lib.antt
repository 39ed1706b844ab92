pub mod Slots
pub mod Walks
pub mod Order
