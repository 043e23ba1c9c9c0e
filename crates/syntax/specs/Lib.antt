pub mod Descent
pub mod Nodes
pub mod Rows
pub mod Statements
pub mod Types
