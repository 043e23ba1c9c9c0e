pub mod Tallying
pub mod Guaranteed
pub mod Playing
pub mod Excluded
