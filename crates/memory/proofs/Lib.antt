pub mod Held
pub mod Acting
pub mod Calls
pub mod Slots
pub mod Lifts
pub mod Told
pub mod Links
pub mod Makes
