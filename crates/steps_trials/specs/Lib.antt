pub mod Heating
pub mod Lighting
pub mod Listings
pub mod Orders
pub mod Radio
pub mod Refusals
pub mod StartUp
pub mod Values
