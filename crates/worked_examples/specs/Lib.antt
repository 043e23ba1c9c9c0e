pub mod Computations
pub mod Models
pub mod Pairs
pub mod Table
