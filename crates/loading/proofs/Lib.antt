pub mod Defaults
pub mod Implementing
mod Judging
pub mod Laws
mod Lifting
mod SameTypes
mod Shapes
pub mod Typed
mod Untyped
