pub mod Claims
pub mod Holders
pub mod Placement
