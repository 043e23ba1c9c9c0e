pub mod Values
pub mod Outsides
pub mod Calls
pub mod Houses
pub mod Scripts
pub mod Laws
