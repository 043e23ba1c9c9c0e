mod Decides
mod Inputs
pub mod Kept
