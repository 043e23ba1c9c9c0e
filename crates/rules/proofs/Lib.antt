pub mod Rows
pub mod Searches
pub mod Walks
