pub mod First
mod Header
pub mod Least
pub mod Limits
mod Steps
