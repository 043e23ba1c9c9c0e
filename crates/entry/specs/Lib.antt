pub mod Entries
pub mod Listings
