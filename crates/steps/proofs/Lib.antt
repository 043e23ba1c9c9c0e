pub mod Counting
pub mod Items
pub mod Playing
