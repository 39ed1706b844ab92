pub mod Laying
pub mod Examples
