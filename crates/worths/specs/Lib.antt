pub mod Texts
pub mod Worths
