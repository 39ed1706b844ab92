pub mod LongName
pub mod Spelling
pub mod Cuts
pub mod Walks
pub mod Examples
