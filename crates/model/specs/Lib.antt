pub mod Input
pub mod Reading
pub mod Rules
