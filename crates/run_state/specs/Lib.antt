pub mod Changes
pub mod Consistent
pub mod Outgoing
pub mod States
