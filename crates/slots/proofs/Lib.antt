pub mod Walking
pub mod Holding
pub mod Below
pub mod Gathering
pub mod Ordered
pub mod Surveying
pub mod Paired
