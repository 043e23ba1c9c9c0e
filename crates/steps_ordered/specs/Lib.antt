pub mod Ending
pub mod Lasting
pub mod Laws
