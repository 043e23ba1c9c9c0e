pub mod Held
pub mod Owners
