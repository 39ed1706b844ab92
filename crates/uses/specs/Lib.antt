pub mod Held
pub mod Uses
pub mod Laws
