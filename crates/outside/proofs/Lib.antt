pub mod Calls
pub mod Scripts
