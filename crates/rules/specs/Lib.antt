pub mod Faults
pub mod Types
pub mod Uses
pub mod Words
