pub mod Earliest
pub mod Methods
pub mod Shape
