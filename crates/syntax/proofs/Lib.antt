pub mod Descents
pub mod Parts
