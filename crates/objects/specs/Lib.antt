pub mod Lies
pub mod Locate
pub mod Words
pub mod Stand
