pub mod Halted
pub mod Laws
pub mod Runs
