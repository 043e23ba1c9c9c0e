pub mod Accepted
pub mod Accepting
pub mod Errors
pub mod Laws
pub mod Loading
pub mod Shapes
pub mod Types
