pub mod Bounds
pub mod Called
pub mod Creating
pub mod Evaluated
pub mod Histories
pub mod Putting
pub mod Sequences
